-- The moves step by step, from the last place down. Assumes nothing.
use mathlib.Core.Path.{◌≡◌, ap, ◌∙◌, sym}
use mathlib.Core.Bool.{Bool, true, false}
use mathlib.Core.List.{List}
use Prim.Native.Nat.{ℕ, suc, ◌-◌, ◌≤◌, ◌<◌}
use native.Mathlib.Omega.{arith}
use lib.ListN.{get_or, set}
use Rattle.std.specs.Prelude.{Option, None, Some}
use Rattle.candidates.specs.Next.{next_of}
use Rattle.turns.specs.Moves.{Moved, moved, firsts_to, moved_to, Found}
use Rattle.turns.specs.Skips.{newest_to}

-- what the code finds at a place is the next candidate of its right symbol
pub chosen : (symbols rights : List ℕ) (k start first y from end : ℕ) (r z : Option ℕ)
    → y ≡ get_or rights k 0 → from ≡ start → end ≡ first → r ≡ next_of symbols y from end → r ≡ z
    → next_of symbols (get_or rights k 0) start first ≡ z
chosen symbols rights k start first y from end r z p f q h i = rw (← p, ← f, ← q) (sym h ∙ i)

pub found_is : {m : Moved} {b : Bool} {xs : List ℕ} → moved b xs ≡ m → Found m b xs
found_is e = record { more_is = ap (λ (m : Moved). m.more) e; numbers_are = ap (λ (m : Moved). m.numbers) e }

-- k places are left, or none is
module _ (symbols rights : List ℕ) (first k : ℕ) (xs : List ℕ) where
  pub firsts_none : k ≤ 0 → firsts_to symbols rights first k xs ≡ moved true xs
  unfolding firsts_to
  firsts_none l = let z : k ≡ 0 = omega arith in rw z

  module _ (some : 0 < k) where
    last : k ≡ suc (k - 1)
    last = omega arith

    pub firsts_more : (e : ℕ) → next_of symbols (get_or rights (k - 1) 0) 0 first ≡ Some e
        → firsts_to symbols rights first k xs ≡ firsts_to symbols rights first (k - 1) (set xs (k - 1) e)
    unfolding firsts_to
    firsts_more e h = ap (λ (i : ℕ). firsts_to symbols rights first i xs) last ∙ rw h

    pub firsts_miss : next_of symbols (get_or rights (k - 1) 0) 0 first ≡ None → firsts_to symbols rights first k xs ≡ moved false xs
    unfolding firsts_to
    firsts_miss h = ap (λ (i : ℕ). firsts_to symbols rights first i xs) last ∙ rw h

  module _ (firsts : List ℕ) where
    pub moved_none : k ≤ 0 → moved_to symbols rights firsts first k xs ≡ moved false xs
    unfolding moved_to
    moved_none l = let z : k ≡ 0 = omega arith in rw z

    module _ (some : 0 < k) where
      pub moved_hit : (e : ℕ) → next_of symbols (get_or rights (k - 1) 0) (suc (get_or xs (k - 1) 0)) first ≡ Some e
          → moved_to symbols rights firsts first k xs ≡ moved true (set xs (k - 1) e)
      unfolding moved_to
      moved_hit e h = ap (λ (i : ℕ). moved_to symbols rights firsts first i xs) (last some) ∙ rw h

      pub moved_back : next_of symbols (get_or rights (k - 1) 0) (suc (get_or xs (k - 1) 0)) first ≡ None → (v : ℕ) → v ≡ get_or firsts (k - 1) 0
          → moved_to symbols rights firsts first k xs ≡ moved_to symbols rights firsts first (k - 1) (set xs (k - 1) v)
      unfolding moved_to
      moved_back h v again = ap (λ (i : ℕ). moved_to symbols rights firsts first i xs) (last some) ∙ rw (h, again)

-- ---- the last place with a candidate from a number on
module _ (symbols rights : List ℕ) (old first k : ℕ) where
  pub newest_none : k ≤ 0 → newest_to symbols rights old first k ≡ None
  unfolding newest_to
  newest_none l = let z : k ≡ 0 = omega arith in rw z

  module _ (some : 0 < k) where
    here : k ≡ suc (k - 1)
    here = omega arith

    pub newest_hit : (e : ℕ) → next_of symbols (get_or rights (k - 1) 0) old first ≡ Some e
        → newest_to symbols rights old first k ≡ Some (record { place = k - 1; entry = e })
    unfolding newest_to
    newest_hit e h = ap (newest_to symbols rights old first) here ∙ rw h

    pub newest_back : next_of symbols (get_or rights (k - 1) 0) old first ≡ None
        → newest_to symbols rights old first k ≡ newest_to symbols rights old first (k - 1)
    unfolding newest_to
    newest_back h = ap (newest_to symbols rights old first) here ∙ rw h
