-- The numbers of a range, one by one, and what stands at a number in a list made of a range. Assumes nothing.
use mathlib.Core.Path.{◌≡◌, refl, sym, ap, ◌∙◌}
use mathlib.Core.List.{[], ◌∷◌, map}
use Prim.Native.Nat.{ℕ, zero, suc, ◌+◌, ◌-◌, ◌≤◌, ◌<◌}
use native.Mathlib.Nat.{le_of_suc-le-suc, not-suc-le-zero, add-zero, zero-add}
use native.Mathlib.Numerals.{add-one}
use native.Mathlib.Omega.{arith}
use lib.ListN.{length, get_or, get_or-eq_default, length-map}
use Rattle.numbers.specs.Lists.{up_from}

pub length_up_from : (i n : ℕ) → length (up_from i n) ≡ n
unfolding up_from
length_up_from i zero = refl
length_up_from i (suc n) = ap suc (length_up_from (suc i) n)

one_more : (i n : ℕ) → up_from i (suc n) ≡ i ∷ up_from (suc i) n
unfolding up_from
one_more i n = refl

none : (i : ℕ) → up_from i 0 ≡ []
unfolding up_from
none i = refl

-- what is left of the numbers below n, from i on
pub left_some : (i n : ℕ) → i < n → up_from i (n - i) ≡ i ∷ up_from (i + 1) (n - (i + 1))
left_some i n h =
    let e : n - i ≡ suc (n - (i + 1)) = omega arith in
    ap (up_from i) e ∙ one_more i (n - (i + 1)) ∙ ap (λ k. i ∷ up_from k (n - (i + 1))) (sym (add-one i))

pub left_none : (i n : ℕ) → n ≤ i → up_from i (n - i) ≡ []
left_none i n h =
    let e : n - i ≡ 0 = omega arith in
    ap (up_from i) e ∙ none i

module _ {A : Type 0} (f : ℕ → A) (d : A) where
  from : (i n k : ℕ) → k < n → get_or (map f (up_from i n)) k d ≡ f (i + k)
  unfolding up_from
  from i zero k h = absurd (not-suc-le-zero h)
  from i (suc n) zero h = ap f (sym (add-zero i))
  from i (suc n) (suc k) h = from (suc i) n k (le_of_suc-le-suc h) ∙ ap f (omega arith)

  -- the element k of a list made of the numbers below n; past the end
  pub at_below : (n k : ℕ) → k < n → get_or (map f (up_from 0 n)) k d ≡ f k
  at_below n k h = from 0 n k h ∙ ap f (zero-add k)

  pub at_past : (n k : ℕ) → n ≤ k → get_or (map f (up_from 0 n)) k d ≡ d
  at_past n k h = get_or-eq_default (map f (up_from 0 n)) d (omega (arith, length-map (up_from 0 n) f, length_up_from 0 n))
