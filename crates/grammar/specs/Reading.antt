-- What the functions over a table answer: the header, the offsets, an edge by its number, the run of a production's edges. Assumes nothing.
use Rattle.std.specs.Prelude.{cond, List, [], ℕ, ◌+◌, ◌-◌, ◌*◌, ltb, take, drop}
use Rattle.grammar.specs.declared.Header.{Header}
use Rattle.grammar.specs.declared.Offsets.{Offsets}
use Rattle.grammar.specs.declared.Edge.{Edge}
use Rattle.grammar.specs.Table.{N, P, E, start_of, at_symbols, at_productions, at_edges, total, edge_in}
use Rattle.grammar.specs.Search.{run_start, run_end}

abbrev pub header_of : List ℕ → Header
header_of bs = record { symbols = N bs; productions = P bs; edges = E bs; start = start_of bs }

-- by their formulas
abbrev pub offsets_of : List ℕ → Offsets
offsets_of bs = record { symbols = at_symbols; productions = at_productions bs; edges = at_edges bs; total = total bs }

-- the edge record i of a table
abbrev pub edge_at : List ℕ → ℕ → Edge
edge_at bs i = edge_in bs (at_edges bs + 6 * i)

-- The bytes of a production's edges, as far as they are there; nothing where there is no such production.
unfoldable pub run_of : List ℕ → ℕ → List ℕ
run_of bs p = cond (ltb p (P bs)) (take (6 * (run_end bs p - run_start bs p)) (drop (at_edges bs + 6 * run_start bs p) bs)) []
