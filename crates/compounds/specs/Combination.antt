-- The closure of one combination: a production's own edges, out of its run of edge records, and the graphs of the picked entries. Assumes
-- nothing.
use Rattle.std.specs.Prelude.{List, map, ℕ, suc, ◌*◌, length, get_or, take, replicate}
use Rattle.grammar.specs.Table.{attributes, edges_in}
use Rattle.graph.specs.Rows.{own, placed_from, closure}
use Rattle.graph.specs.Parts.{most_nodes}

-- the rows of a production's own edges
abbrev pub own_in : List ℕ → List ℕ
own_in edges = own attributes (edges_in edges) (replicate most_nodes 0)

-- the graphs of the first `count` picked entries; the graph of an entry that is not there has no pairs
abbrev pub picked_graphs : List ℕ → ℕ → List ℕ → List ℕ
picked_graphs graphs count picked = map (λ i. get_or graphs i 0) (take count picked)

-- the closed rows over the graphs gs, where `rows` are a production's own
abbrev pub closed_over : List ℕ → List ℕ → List ℕ
closed_over rows gs = closure (take (attributes * suc (length gs)) (placed_from attributes 1 gs rows))

-- the closed rows of the combination
abbrev pub closed_in : List ℕ → List ℕ → ℕ → List ℕ → List ℕ
closed_in edges graphs count picked = closed_over (own_in edges) (picked_graphs graphs count picked)
