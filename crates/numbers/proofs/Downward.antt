-- A test at each number below n and at some number below n: from n down, as a loop goes, and what it says. Assumes nothing.
use mathlib.Core.Path.{◌≡◌, refl, sym, ap, ◌∙◌}
use mathlib.Core.Bool.{Bool, true, false, ◌||◌, true≢false}
use mathlib.Core.Logic.{⊎_elim}
use Prim.Native.Nat.{ℕ, zero, suc, ◌-◌, ◌≤◌, ◌<◌}
use native.Mathlib.Nat.{eq-or-lt_of_le, lt-suc_self}
use native.Mathlib.Omega.{arith}
use Rattle.numbers.specs.Lists.{both, each_below, some_below}
use Rattle.numbers.proofs.Decides.{Decides, says, both_decides}

module _ (f : ℕ → Bool) where
  -- ---- a turn of a loop that counts k down

  module _ (k : ℕ) (some : 0 < k) where
    one_more : k ≡ suc (k - 1)
    one_more = omega arith

    pub each_passes : f (k - 1) ≡ true → each_below f (k - 1) ≡ each_below f k
    unfolding each_below both
    each_passes h = sym (ap (each_below f) one_more ∙ rw h)

    pub each_fails : f (k - 1) ≡ false → each_below f k ≡ false
    unfolding each_below both
    each_fails h = ap (each_below f) one_more ∙ rw h

    pub some_passes : f (k - 1) ≡ true → some_below f k ≡ true
    unfolding some_below
    some_passes h = ap (some_below f) one_more ∙ rw h

    pub some_fails : f (k - 1) ≡ false → some_below f (k - 1) ≡ some_below f k
    unfolding some_below
    some_fails h = sym (ap (some_below f) one_more ∙ rw h)

  -- none is left
  module _ (k : ℕ) (none : k ≤ 0) where
    pub each_done : each_below f k ≡ true
    unfolding each_below
    each_done =
        let e : k ≡ 0 = omega arith in
        rw e

    pub some_done : some_below f k ≡ false
    unfolding some_below
    some_done =
        let e : k ≡ 0 = omega arith in
        rw e

  -- ---- what it says

  pub each_decides : (P : ℕ → Type 0) → ((i : ℕ) → Decides (f i) (P i)) → (n : ℕ) → Decides (each_below f n) ((i : ℕ) → i < n → P i)
  unfolding each_below
  each_decides P d zero = record { so = λ e i l. absurd (omega arith); passes = λ h. refl }
  each_decides P d (suc n) =
      says
      (λ p i l. ⊎_elim (λ q. let z : i ≡ n = omega (arith, q) in
      rw z p.0) (λ q. p.1 i (omega (arith, q))) (eq-or-lt_of_le l))
      (λ h. (h n (lt-suc_self n), λ i l. h i (omega arith)))
      (both_decides (d n) (each_decides P d n))

  -- the test fails somewhere
  pub each_lacks : (n : ℕ) → each_below f n ≡ false → (j : ℕ) × (j < n) × (f j ≡ false)
  unfolding each_below both
  each_lacks zero h = absurd (true≢false h)
  each_lacks (suc n) h = go (f n) refl h (each_lacks n)
    where
      go : (b : Bool) → f n ≡ b → both b (each_below f n) ≡ false → (each_below f n ≡ false → (j : ℕ) × (j < n) × (f j ≡ false))
          → (j : ℕ) × (j < suc n) × (f j ≡ false)
      go true e q more =
          let w = more q in
          (w.0, omega (arith, w.1), w.2)
      go false e q more = (n, omega arith, e)

  -- the test passes nowhere
  pub some_lacks : (n : ℕ) → some_below f n ≡ false → (i : ℕ) → i < n → f i ≡ false
  unfolding some_below
  some_lacks zero h i l = absurd (omega arith)
  some_lacks (suc n) h i l =
      let w = neither (f n) (some_below f n) h in
      ⊎_elim (λ q. let z : i ≡ n = omega (arith, q) in
      rw z w.0) (λ q. some_lacks n w.1 i (omega (arith, q))) (eq-or-lt_of_le l)
    where
      neither : (a b : Bool) → (a || b) ≡ false → (a ≡ false) × (b ≡ false)
      neither true b e = absurd (true≢false e)
      neither false b e = (refl, e)
