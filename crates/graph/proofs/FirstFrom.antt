-- The first number at which f is not 0: what it is, and a turn of a loop that looks for it. Assumes nothing.
use mathlib.Core.Path.{◌≡◌, refl, ap, ◌∙◌}
use Prim.Native.Nat.{ℕ, zero, suc, ◌+◌, ◌-◌, ◌^◌, ◌≤◌, ◌<◌}
use native.Mathlib.Decide.{ℕ_discrete, dec_lt}
use native.Mathlib.Numerals.{add-one}
use native.Mathlib.Omega.{arith}
use Rattle.std.specs.Int.{w64, trailing_zeros}
use Rattle.std.proofs.lemmas.Nat.Bits.{bit_at-trailing_zeros}
use Rattle.numbers.specs.Number.{bit}
use Rattle.numbers.proofs.Bits.{bit_zero}
use Rattle.graph.specs.Search.{here_else, first_from, lowest}

pub record IsFirst (f : ℕ → ℕ) (n i r : ℕ) : Type 0 where
  pub from : i ≤ r
  pub to : r ≤ i + n
  pub there : r < i + n → 0 < f r
  pub before : (j : ℕ) → i ≤ j → j < r → f j ≡ 0

pub is_first : (f : ℕ → ℕ) (n i : ℕ) → IsFirst f n i (first_from f n i)
unfolding first_from
is_first f zero i = record { from = omega arith; to = omega arith; there = λ l. absurd (omega arith); before = λ j a b. absurd (omega arith) }
is_first f (suc n) i = go (f i) refl (is_first f n (suc i))
  where
    go : (b : ℕ) → f i ≡ b → IsFirst f n (suc i) (first_from f n (suc i)) → IsFirst f (suc n) i (here_else b i (first_from f n (suc i)))
    go (suc b) e r = record { from = omega arith; to = omega arith; there = λ l. omega arith; before = λ j a b. absurd (omega arith) }
    go zero e r = record {
      from = omega arith;
      to = omega arith;
      there = λ l. r.there (omega arith);
      before = λ j a l. at j a l (ℕ_discrete j i);
    }
      where
        at : (j : ℕ) → i ≤ j → j < first_from f n (suc i) → Dec (j ≡ i) → f j ≡ 0
        at j a l (yes q) = ap f q ∙ e
        at j a l (no k) = r.before j (omega arith) l

-- ---- what is left to look through gives what the whole gives

pub begun : (f : ℕ → ℕ) (n : ℕ) → first_from f n 0 ≡ first_from f (n - 0) 0
begun f n = let e : n - 0 ≡ n = omega arith in rw e

module _ (f : ℕ → ℕ) (n i : ℕ) {r : ℕ} (l : i < n) (e : r ≡ first_from f (n - i) i) where
  pub hit : f i ≡ 1 → r ≡ i
  unfolding first_from
  hit h = let k : n - i ≡ suc (n - suc i) = omega arith in rw (k, h) at e

  pub skip : f i ≡ 0 → r ≡ first_from f (n - (i + 1)) (i + 1)
  unfolding first_from
  skip h =
      let k : n - i ≡ suc (n - (i + 1)) = omega arith in
      let q : r ≡ first_from f (n - (i + 1)) (suc i) = rw (k, h) at e in
      rw (q, add-one)

pub over : (f : ℕ → ℕ) (n i : ℕ) {r : ℕ} → i ≡ n → r ≡ first_from f (n - i) i → r ≡ n
unfolding first_from
over f n i {r} h e =
    let k : n - i ≡ 0 = omega arith in
    let q : r ≡ i = rw k at e in
    q ∙ h

-- ---- of a set of 64 nodes at most that has a node below m, the lowest is where its zeros end

module _ (m s : ℕ) (fits : s < 2 ^ 64) (l : lowest m s < m) where
  first : IsFirst (λ j. bit j s) m 0 (lowest m s)
  first = is_first (λ j. bit j s) m 0

  not_empty : (x : ℕ) → s ≡ x → 0 < s
  not_empty zero e = absurd (omega (arith, first.there (omega arith), ap (bit (lowest m s)) e, bit_zero (lowest m s)))
  not_empty (suc x) e = omega arith

  zeros : (trailing_zeros w64 s < 64) × (bit (trailing_zeros w64 s) s ≡ 1) × ((i : ℕ) → i < trailing_zeros w64 s → bit i s ≡ 0)
  zeros = bit_at-trailing_zeros w64 s (not_empty s refl) fits

  pub lowest_zeros : trailing_zeros w64 s ≡ lowest m s
  lowest_zeros = go (dec_lt (trailing_zeros w64 s) (lowest m s)) (dec_lt (lowest m s) (trailing_zeros w64 s))
    where
      go : Dec (trailing_zeros w64 s < lowest m s) → Dec (lowest m s < trailing_zeros w64 s) → trailing_zeros w64 s ≡ lowest m s
      go (yes a) d = absurd (omega (arith, zeros.1, first.before (trailing_zeros w64 s) (omega arith) a))
      go (no n) (yes b) = absurd (omega (arith, first.there (omega arith), zeros.2 (lowest m s) b))
      go (no n) (no k) = omega arith
