-- Bytes past the end count 0; those of a part are those of the whole at their places. Assumes nothing.
use mathlib.Core.Path.{◌≡◌, ap, ◌∙◌}
use mathlib.Core.List.{List}
use Prim.Native.Nat.{ℕ, ◌+◌, ◌≤◌, ◌<◌}
use native.Mathlib.Omega.{arith}
use lib.ListN.{length, get_or, take, drop, get_or-eq_default}
use lib.Seq.{get_or-take, get_or-drop}
use Rattle.numbers.specs.Number.{le2}

module _ (bs : List ℕ) where
  pub byte_past : (i : ℕ) → length bs ≤ i → get_or bs i 0 ≡ 0
  byte_past i past = get_or-eq_default bs 0 past

  pub le2_past : (i : ℕ) → length bs ≤ i → le2 bs i ≡ 0
  le2_past i past = omega (arith, byte_past i past, byte_past (i + 1) (omega arith))

module _ (bs : List ℕ) (n m : ℕ) where
  pub byte_in_part : (k j : ℕ) → k < n → m + k ≡ j → get_or (take n (drop m bs)) k 0 ≡ get_or bs j 0
  byte_in_part k j h e = get_or-take n (drop m bs) k 0 h ∙ get_or-drop m bs k 0 ∙ ap (λ j. get_or bs j 0) e

  pub le2_in_part : (k j : ℕ) → k + 1 < n → m + k ≡ j → le2 (take n (drop m bs)) k ≡ le2 bs j
  le2_in_part k j h e = omega (arith, byte_in_part k j (omega arith) e, byte_in_part (k + 1) (j + 1) h (omega arith))
