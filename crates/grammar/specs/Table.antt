-- What the bytes of a table say. Assumes nothing.
use Rattle.std.specs.Prelude.{List, map, ℕ, ◌+◌, ◌*◌, ◌/◌, length, get_or}
use Rattle.numbers.specs.Number.{le2}
use Rattle.numbers.specs.Lists.{up_from}
use Rattle.grammar.specs.declared.Symbol.{Symbol}
use Rattle.grammar.specs.declared.Production.{Production}
use Rattle.grammar.specs.declared.Node.{Node}
use Rattle.grammar.specs.declared.Edge.{Edge}
use Rattle.grammar.specs.Grammar.{Grammar}

-- ---- the header: counts, start, offsets
abbrev pub N : List ℕ → ℕ
N bs = le2 bs 0

abbrev pub P : List ℕ → ℕ
P bs = le2 bs 2

abbrev pub E : List ℕ → ℕ
E bs = le2 bs 4

abbrev pub start_of : List ℕ → ℕ
start_of bs = le2 bs 6

-- the offsets and the total by their formulas
abbrev pub at_symbols : ℕ
at_symbols = 24

abbrev pub at_productions : List ℕ → ℕ
at_productions bs = 24 + 2 * N bs

abbrev pub at_edges : List ℕ → ℕ
at_edges bs = 24 + 2 * N bs + 18 * P bs

abbrev pub total : List ℕ → ℕ
total bs = 24 + 2 * N bs + 18 * P bs + 6 * E bs

-- ---- the records: 2, 18 and 6 bytes
-- how many attributes a symbol may have: 8, in every table
abbrev pub attributes : ℕ
attributes = 8

abbrev pub width_of : List ℕ → ℕ
width_of bs = attributes

unfoldable pub symbol_in : List ℕ → ℕ → Symbol
symbol_in bs i = record { count = get_or bs i 0; mask = get_or bs (i + 1) 0 }

unfoldable pub production_in : List ℕ → ℕ → Production
production_in bs i = record { left = le2 bs i; n = le2 bs (i + 2); slots = map (λ k. le2 bs (i + 4 + 2 * k)) (up_from 0 7) }

abbrev pub node_in : List ℕ → ℕ → Node
node_in bs i = record { occurrence = get_or bs i 0; attribute = get_or bs (i + 1) 0 }

unfoldable pub edge_in : List ℕ → ℕ → Edge
edge_in bs i = record { production = le2 bs i; source = node_in bs (i + 2); target = node_in bs (i + 4) }

-- the edge records of some bytes, one after the other
unfoldable pub edges_in : List ℕ → List Edge
edges_in bs = map (λ i. edge_in bs (6 * i)) (up_from 0 (length bs / 6))

unfoldable pub grammar_of : List ℕ → Grammar
grammar_of bs =
    record {
      start = start_of bs;
      symbols = map (λ i. symbol_in bs (at_symbols + 2 * i)) (up_from 0 (N bs));
      productions = map (λ i. production_in bs (at_productions bs + 18 * i)) (up_from 0 (P bs));
      edges = map (λ i. edge_in bs (at_edges bs + 6 * i)) (up_from 0 (E bs));
    }
