-- Small grammars with something to skip, and one with nothing. Assumes nothing.
use Rattle.std.specs.Prelude.{[], ◌∷◌, ℕ, replicate}
use Rattle.grammar.specs.declared.Production.{Production}
use Rattle.grammar.specs.Grammar.{Grammar}
use Rattle.trees.specs.Small.{small_edge}

-- s → nothing
abbrev pub leaf_of : ℕ → Production
leaf_of s = record { left = s; n = 0; slots = replicate 7 0 }

-- s → r
abbrev pub one_below : ℕ → ℕ → Production
one_below s r = record { left = s; n = 1; slots = r ∷ replicate 6 0 }

-- 0 → nothing; a spare symbol, which the start symbol does not reach: 1 → nothing, with a circle in its own edges
abbrev pub spare : Grammar
spare =
    record {
      start = 0;
      symbols = record { count = 0; mask = 0 } ∷ record { count = 1; mask = 0 } ∷ [];
      productions = leaf_of 0 ∷ leaf_of 1 ∷ [];
      edges = small_edge 1 0 0 0 0 ∷ [];
    }

-- 0 → 1, with a circle in its own edges, where 1 has no finite tree: 1 → 1; and 0 → nothing
abbrev pub endless : Grammar
endless =
    record {
      start = 0;
      symbols = record { count = 0; mask = 0 } ∷ record { count = 1; mask = 1 } ∷ [];
      productions = one_below 0 1 ∷ one_below 1 1 ∷ leaf_of 0 ∷ [];
      edges = small_edge 0 1 0 1 0 ∷ [];
    }

-- 0 → 1, 1 → 2, 2 → 3, 3 → nothing: with each walk one symbol more; and 2 → 0
abbrev pub chain : Grammar
chain =
    record {
      start = 0;
      symbols = replicate 4 (record { count = 0; mask = 0 });
      productions = one_below 0 1 ∷ one_below 1 2 ∷ one_below 2 3 ∷ leaf_of 3 ∷ one_below 2 0 ∷ [];
      edges = [];
    }
