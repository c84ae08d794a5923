-- Both sides of the table's borders. Assumes nothing.
use mathlib.Core.Path.{◌≡◌, refl}
use mathlib.Core.List.{[], ◌∷◌, ◌++◌, map}
use lib.ListN.{take, set}
use Rattle.std.specs.Prelude.{Ok, Err}
use Rattle.grammar.specs.declared.Broken.TheVariants.{Rule, Record}
use Rattle.grammar.specs.Refusal.{refusal}
use Rattle.rules.specs.Opened.{opened}
use Rattle.rules.specs.Small.{table_a, table_b}

-- A itself; 23 bytes; one byte past the total; n = 7 and n = 8; an attribute count of 8 and of 9; no symbol; the start not below N;
-- a spare slot; a mask bit at the count; an edge's production, its source's and its target's occurrence and attribute, its target; an edge
-- given twice; two edges exchanged; several faults in one edge, of which the first rule decides; an edge that is out of order too; two bad
-- productions, of which the first decides
pub borders :
    map refusal
    (table_a
    ∷ take 23 table_a
    ∷ (table_a ++ (0 ∷ []))
    ∷ set table_a 30 7
    ∷ set table_a 30 8
    ∷ set table_a 24 8
    ∷ set table_a 24 9
    ∷ set table_a 0 0
    ∷ set table_a 6 2
    ∷ set table_a 34 1
    ∷ set table_a 27 16
    ∷ set table_a 82 3
    ∷ set table_a 84 2
    ∷ set table_a 86 2
    ∷ set table_a 85 4
    ∷ set table_a 93 4
    ∷ set table_a 87 2
    ∷ set (set table_b 103 0) 105 2
    ∷ set (set (set table_a 91 2) 93 1) 87 1
    ∷ set (set (set table_a 100 3) 102 9) 103 9
    ∷ set (set table_a 97 9) 98 1
    ∷ set (set table_a 85 4) 87 2
    ∷ set (set table_a 91 1) 93 2
    ∷ set (set table_a 48 8) 66 8
    ∷ [])
    ≡ Ok tt
    ∷ Err (Rule 1)
    ∷ Err (Rule 3)
    ∷ Ok tt
    ∷ Err (Record 5 0)
    ∷ Ok tt
    ∷ Err (Record 4 0)
    ∷ Err (Rule 2)
    ∷ Err (Rule 2)
    ∷ Err (Record 5 0)
    ∷ Err (Record 4 1)
    ∷ Err (Record 10 0)
    ∷ Err (Record 11 0)
    ∷ Err (Record 11 0)
    ∷ Err (Record 12 0)
    ∷ Err (Record 12 1)
    ∷ Err (Record 13 0)
    ∷ Err (Record 7 3)
    ∷ Err (Record 7 1)
    ∷ Err (Record 10 3)
    ∷ Err (Record 11 2)
    ∷ Err (Record 12 0)
    ∷ Err (Record 13 1)
    ∷ Err (Record 5 1)
    ∷ []
unfolding opened table_a table_b
borders = refl
