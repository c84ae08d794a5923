-- The circle of a root as the code finds it, of any bytes; of a table that is taken it is the circle that the report says (`ring_said`).
-- Assumes nothing.
use Rattle.std.specs.Prelude.{List, map, ℕ, suc, ◌*◌, min, get_or, take, replicate}
use Rattle.numbers.specs.Lists.{up_from}
use Rattle.grammar.specs.declared.Production.{Production}
use Rattle.grammar.specs.Grammar.{Grammar, symbol, symbol_at, production}
use Rattle.grammar.specs.Table.{attributes, edges_in, grammar_of}
use Rattle.grammar.specs.Reading.{run_of}
use Rattle.graph.specs.declared.Trail.{Trail}
use Rattle.graph.specs.Rows.{own, placed_from}
use Rattle.graph.specs.Parts.{most_nodes}
use Rattle.graph.specs.Search.{circle_of}
use Rattle.graph.specs.Trails.{filled_up, circle_trail}

-- how many right symbols a production has; a record has slots for seven
abbrev pub rights_in : Production → ℕ
rights_in p = min p.n 7

-- for each occurrence the mask of its symbol, in eight places
unfoldable pub masks_in : Grammar → Production → List ℕ
masks_in g p = filled_up 8 (map (λ o. (symbol g (symbol_at p o)).mask) (up_from 0 (suc (rights_in p))))

-- the rows of the production p over the entries in the first n slots, which have these graphs
abbrev pub rows_in : List ℕ → List ℕ → ℕ → ℕ → List ℕ → List ℕ
rows_in bs graphs p n root =
    placed_from attributes 1 (map (λ i. get_or graphs i 0) (take n root)) (own attributes (edges_in (run_of bs p)) (replicate most_nodes 0))

unfoldable pub ring_in : List ℕ → List ℕ → ℕ → List ℕ → Trail
ring_in bs graphs p root =
    let q = production (grammar_of bs) p in
    let n = rights_in q in
    circle_trail attributes (masks_in (grammar_of bs) q) (circle_of (take (attributes * suc n) (rows_in bs graphs p n root)))
