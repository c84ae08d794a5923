-- K1 to K10 without stale combinations, from the tables' bytes, and turns in which stale and fresh combinations are mixed. Assumes nothing.
use mathlib.Core.Path.{◌≡◌, refl}
use mathlib.Core.List.{List, [], ◌∷◌, map}
use Prim.Native.Nat.{ℕ}
use lib.ListN.{set}
use Rattle.grammar.specs.Table.{grammar_of}
use Rattle.parts.specs.Rule.{taking}
use Rattle.rules.specs.declared.Answer.TheVariants.{Noncircular, Circular}
use Rattle.rules.specs.Passes.{numbered, candidates, combinations, empty}
use Rattle.rules.specs.Fresh.{no_turn, unstale, Went, goes, stops, fresh_pass, fresh_passes}
use Rattle.rules.specs.Test.{system_in}
use Rattle.rules.specs.Opened.{opened}
use Rattle.rules.specs.Small.{table_a, table_b, table_c, table_d, table_r}
use Rattle.rules.proofs.Cases.{Line, line_of}

-- over the productions of a table that take part
abbrev line : List ℕ → ℕ → ℕ → Line
line bs limit room = line_of (fresh_passes (system_in bs) limit room (taking (grammar_of bs)))

pub K-fresh :
    ◌≡◌ {A = List Line}
    (line table_a 10 3
    ∷ line table_a 9 3
    ∷ line table_a 10 2
    ∷ line table_a 0 0
    ∷ line table_b 3 2
    ∷ line table_b 2 2
    ∷ line table_b 3 1
    ∷ line table_b 1 1
    ∷ line table_c 0 0
    ∷ line table_d 0 0
    ∷ [])
    ((Noncircular, 4, 3, 3)
    ∷ (Noncircular, 4, 3, 3)
    ∷ (numbered 9, 3, 2, 2)
    ∷ (numbered 8, 0, 0, 1)
    ∷ (Circular 0, 3, 2, 2)
    ∷ (numbered 8, 2, 2, 2)
    ∷ (numbered 9, 2, 1, 1)
    ∷ (numbered 8, 1, 1, 1)
    ∷ (Noncircular, 0, 0, 1)
    ∷ (Noncircular, 0, 0, 1)
    ∷ [])
unfolding opened table_a table_b table_c table_d
K-fresh = refl

-- R with a second right symbol: 0 → nothing, and 0 → 0 0 with 0.0 → 0.1
abbrev table_two : List ℕ
table_two = set table_r 46 2

-- after one pass: the combinations of a turn of production 1, and those of them that it tries
abbrev offered : Went → List (List (List ℕ))
offered (goes since s) =
    let combos = combinations (map (candidates s.entries) ((system_in table_two).rights 1)) in
    combos ∷ unstale (since 1) combos ∷ []
offered (stops a root s) = []

-- its first turn began with entry 0 and stored entry 1: in the second turn the first combination is stale, and the others are tried in their
-- order
pub mixed :
    offered (fresh_pass (system_in table_two) 100 10 (0 ∷ 1 ∷ []) no_turn empty)
    ≡ ((0 ∷ 0 ∷ []) ∷ (0 ∷ 1 ∷ []) ∷ (1 ∷ 0 ∷ []) ∷ (1 ∷ 1 ∷ []) ∷ [])
    ∷ ((0 ∷ 1 ∷ []) ∷ (1 ∷ 0 ∷ []) ∷ (1 ∷ 1 ∷ []) ∷ [])
    ∷ []
unfolding opened table_r
mixed = refl

-- each combination once: the empty one of production 0, and four of production 1; in R two of it
pub each_once :
    ◌≡◌ {A = List Line} (line table_two 100 10 ∷ line table_r 100 10 ∷ []) ((Noncircular, 5, 2, 2) ∷ (Noncircular, 3, 2, 2) ∷ [])
unfolding opened table_r
each_once = refl
