-- The next candidate: the search for it step by step, and what it is. Assumes nothing.
use mathlib.Core.Path.{◌≡◌, refl, sym, ap, ◌∙◌}
use mathlib.Core.Bool.{Bool, true, false}
use mathlib.Core.List.{List}
use mathlib.Core.Logic.{⊎_elim}
use Prim.Native.Nat.{ℕ, zero, suc, ◌+◌, ◌-◌, ◌≤◌, ◌<◌, min}
use native.Mathlib.Nat.{eq-or-lt_of_le}
use native.Mathlib.Numerals.{add-one}
use native.Mathlib.Omega.{arith}
use lib.Dec.{eqb}
use lib.ListN.{length, get_or}
use borrow.Author.Tests.{eqb-true, eqb-false}
use Rattle.std.specs.Prelude.{None, Some}
use Rattle.candidates.specs.Next.{first_up, next_of, IsNext, Next}

module _ (t : ℕ → Bool) where
  pub up_hit : (e end : ℕ) → e < end → t e ≡ true → first_up t e (end - e) ≡ Some e
  unfolding first_up
  up_hit e end l h =
      let m : end - e ≡ suc (end - suc e) = omega arith in
      rw (m, h)

  pub up_other : (e end : ℕ) → e < end → t e ≡ false → first_up t e (end - e) ≡ first_up t (e + 1) (end - (e + 1))
  unfolding first_up
  up_other e end l h =
      let m : end - e ≡ suc (end - (e + 1)) = omega arith in
      rw (m, h, add-one)

  pub up_none : (e end : ℕ) → end ≤ e → first_up t e (end - e) ≡ None
  unfolding first_up
  up_none e end l =
      let m : end - e ≡ 0 = omega arith in
      rw m

  -- it lies between, and what it passes does not pass the test
  pub record Found (e n r : ℕ) : Type 0 where
    pub after : e ≤ r
    pub within : r < e + n
    pub none : (i : ℕ) → e ≤ i → i < r → t i ≡ false
    pub hit : t r ≡ true

  abbrev pub Nowhere : ℕ → ℕ → Type 0
  Nowhere e n = (i : ℕ) → e ≤ i → i < e + n → t i ≡ false

  -- what is so of each from e on, where it is of e and of each after it
  from_here : (P : ℕ → Type 0) (e : ℕ) → t e ≡ false → ((i : ℕ) → suc e ≤ i → P i → t i ≡ false) → (i : ℕ) → e ≤ i → P i → t i ≡ false
  from_here P e q h i a p = ⊎_elim (λ z. ap t (sym z) ∙ q) (λ l. h i (omega (arith, l)) p) (eq-or-lt_of_le a)

  pub found : (n e r : ℕ) → first_up t e n ≡ Some r → Found e n r
  unfolding first_up
  found zero e r h = absurd (cc)
  found (suc n) e r h = go (t e) refl (found n (suc e) r)
    where
      go : (b : Bool) → t e ≡ b → (first_up t (suc e) n ≡ Some r → Found (suc e) n r) → Found e (suc n) r
      go true q f =
          let k = rw q at h in
          let z : e ≡ r = cc k in
          record { after = omega arith; within = omega arith; none = λ i a b. absurd (omega arith); hit = ap t (sym z) ∙ q }
      go false q f =
          let w = f (rw q at h) in
          record {
            after = omega (arith, w.after);
            within = omega (arith, w.within);
            none = from_here (λ i. i < r) e q w.none;
            hit = w.hit;
          }

  pub nowhere : (n e : ℕ) → first_up t e n ≡ None → Nowhere e n
  unfolding first_up
  nowhere zero e h = λ i a b. absurd (omega arith)
  nowhere (suc n) e h = go (t e) refl (nowhere n (suc e))
    where
      go : (b : Bool) → t e ≡ b → (first_up t (suc e) n ≡ None → Nowhere (suc e) n) → Nowhere e (suc n)
      go true q f = let k = rw q at h in absurd (cc k)
      go false q f = from_here (λ i. i < e + suc n) e q (λ j a b. f (rw q at h) j a (omega (arith, b)))

module _ (symbols : List ℕ) (y from first : ℕ) where
  pub next_some : (e : ℕ) → next_of symbols y from first ≡ Some e → IsNext symbols y from first e
  next_some e h =
      let w = found (λ i. eqb (get_or symbols i 0) y) (min first (length symbols) - from) from e h in
      record {
        after = w.after;
        within = omega (arith, w.after, w.within);
        none = λ i a b z. eqb-false _ _ (w.none i a b) z;
        found = eqb-true _ _ w.hit;
      }

  pub next_of_lem : first ≤ length symbols → Next symbols y from first (next_of symbols y from first)
  next_of_lem u =
      let t = λ (i : ℕ). eqb (get_or symbols i 0) y in
      record {
        some = next_some;
        none = λ h i a b z. eqb-false _ _ (nowhere t (min first (length symbols) - from) from h i a (omega arith)) z;
      }
