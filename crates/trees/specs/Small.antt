-- The small grammars as records, and a tree of A and B. Assumes nothing.
use Rattle.std.specs.Prelude.{List, [], ◌∷◌, ℕ, replicate}
use Rattle.grammar.specs.declared.Production.{Production}
use Rattle.grammar.specs.declared.Edge.{Edge}
use Rattle.grammar.specs.Grammar.{Grammar}
use Rattle.trees.specs.Tree.{Tree, node, nil, cons}

-- the edge o.a → q.b of the production p
abbrev pub small_edge : ℕ → ℕ → ℕ → ℕ → ℕ → Edge
small_edge p o a q b =
    record { production = p; source = record { occurrence = o; attribute = a }; target = record { occurrence = q; attribute = b } }

abbrev pub leaf : Production
leaf = record { left = 1; n = 0; slots = replicate 7 0 }

-- symbol 0 has no attributes, symbol 1 has four, 0 and 1 inherited; 0 → 1, and twice 1 → nothing
abbrev pub with_edges : List Edge → Grammar
with_edges es =
    record {
      start = 0;
      symbols = record { count = 0; mask = 0 } ∷ record { count = 4; mask = 3 } ∷ [];
      productions = record { left = 0; n = 1; slots = 1 ∷ replicate 6 0 } ∷ leaf ∷ leaf ∷ [];
      edges = es;
    }

abbrev pub grammar_a : Grammar
grammar_a = with_edges (small_edge 0 1 2 1 1 ∷ small_edge 0 1 3 1 0 ∷ small_edge 1 0 0 0 2 ∷ small_edge 2 0 1 0 3 ∷ [])

-- A, and production 1 has also 0.1 → 0.3
abbrev pub grammar_b : Grammar
grammar_b = with_edges (small_edge 0 1 2 1 1 ∷ small_edge 0 1 3 1 0 ∷ small_edge 1 0 0 0 2 ∷ small_edge 1 0 1 0 3 ∷ small_edge 2 0 1 0 3 ∷ [])

-- C: one symbol with one inherited attribute; 0 → 0 with 1.0 → 1.0
abbrev pub grammar_c : Grammar
grammar_c =
    record {
      start = 0;
      symbols = record { count = 1; mask = 1 } ∷ [];
      productions = record { left = 0; n = 1; slots = replicate 7 0 } ∷ [];
      edges = small_edge 0 1 0 1 0 ∷ [];
    }

-- production 0 over production 1
abbrev pub zero_over_one : Tree
zero_over_one = node 0 (cons (node 1 nil) nil)
