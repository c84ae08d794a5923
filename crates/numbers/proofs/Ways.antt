-- The paths through nodes below n alone are all paths, where only nodes below n have edges. Over bit functions, so that it serves
-- whatever table holds the bits. Assumes nothing.
use mathlib.Core.Path.{◌≡◌}
use mathlib.Core.Logic.{◌⊎◌, inl, inr, ⊎_elim, ◌↔◌}
use Prim.Native.Nat.{ℕ, zero, suc, ◌<◌}
use native.Mathlib.Decide.{ℕ_discrete}
use native.Mathlib.Omega.{arith}
use Rattle.numbers.specs.Paths.{Plus, one, snoc, Leads}
use Rattle.numbers.specs.Ways.{ways}

-- a path in one relation is one in another that has all its edges
pub carried : {A : Type 0} {E F : A → A → Type 0} → ((x y : A) → E x y → F x y) → {x y : A} → Plus E x y → Plus F x y
carried f {x} (one {y} e) = one (f x y e)
carried f (snoc {y} {z} p e) = snoc (carried f p) (f y z e)

-- one path after the other
pub on : {A : Type 0} {E : A → A → Type 0} {x y z : A} → Plus E x y → Plus E y z → Plus E x z
on p (one e) = snoc p e
on p (snoc q e) = snoc (on p q) e

module _ {A : Type 0} {E : A → A → Type 0} where
  pub first_edge : {x y : A} → Plus E x y → (z : A) × E x z
  first_edge (one {y = z} e) = (z, e)
  first_edge (snoc p e) = first_edge p

  pub last_edge : {x y : A} → Plus E x y → (z : A) × E z y
  last_edge {x} (one e) = (x, e)
  last_edge (snoc {y = z} p e) = (z, e)

module _ (m : ℕ → ℕ → ℕ) (bits : (i j : ℕ) → m i j < 2) where
  -- a path from i to j, whose nodes between are below k
  abbrev Way : ℕ → ℕ → ℕ → Type 0
  Way k i j = ways k m i j ≡ 1

  pub ways_lt : (k i j : ℕ) → ways k m i j < 2
  unfolding ways
  ways_lt zero i j = bits i j
  ways_lt (suc k) i j = omega (arith, ways_lt k i j, ways_lt k i k)

  split : (k i j : ℕ) → Way (suc k) i j → Way k i j ⊎ (Way k i k × Way k k j)
  unfolding ways
  split k i j h = go (ℕ_discrete (ways k m i j) 1)
    where
      go : Dec (Way k i j) → Way k i j ⊎ (Way k i k × Way k k j)
      go (yes e) = inl e
      go (no f) =
          let a = ways_lt k i j in
          let b = ways_lt k i k in
          let c = ways_lt k k j in
          inr (omega arith, omega arith)

  keeps : (k i j : ℕ) → Way k i j → Way (suc k) i j
  unfolding ways
  keeps k i j h = omega (arith, ways_lt k i k)

  makes : (k i j : ℕ) → Way k i k → Way k k j → Way (suc k) i j
  unfolding ways
  makes k i j p q = omega (arith, ways_lt k i j)

  pub ways_path : (k i j : ℕ) → ways k m i j ≡ 1 → Plus (Leads m) i j
  unfolding ways
  ways_path zero i j h = one h
  ways_path (suc k) i j h =
      ⊎_elim (λ e. ways_path k i j e) (λ e. on (ways_path k i k e.0) (ways_path k k j e.1)) (split k i j h)

  stays : (k i j : ℕ) → m i j ≡ 1 → Way k i j
  unfolding ways
  stays zero i j h = h
  stays (suc k) i j h = keeps k i j (stays k i j h)

  -- the ways through nodes below n go on at any of these
  through : (n k i j : ℕ) → k < n → Way n i k → Way n k j → Way n i j
  through zero k i j l p q = absurd (omega arith)
  through (suc n) k i j l p q = go (ℕ_discrete k n) (λ x a b. through n k a b x)
    where
      -- to and from n itself the last step adds nothing
      to : Way (suc n) i n → Way n i n
      to h = ⊎_elim (λ e. e) (λ e. e.0) (split n i n h)

      from : Way (suc n) n j → Way n n j
      from h = ⊎_elim (λ e. e) (λ e. e.1) (split n n j h)

      go : Dec (k ≡ n) → (k < n → (a b : ℕ) → Way n a k → Way n k b → Way n a b) → Way (suc n) i j
      go (yes e) c = makes n i j (to (rw e at p)) (from (rw e at q))
      go (no f) c =
          let l' : k < n = omega arith in
          ⊎_elim
          (λ e. ⊎_elim (λ g. keeps n i j (c l' i j e g)) (λ g. makes n i j (c l' i n e g.0) g.1) (split n k j q))
          (λ e. ⊎_elim (λ g. makes n i j e.0 (c l' n j e.1 g)) (λ g. makes n i j e.0 g.1) (split n k j q))
          (split n i k p)

  -- only nodes below n have edges
  module _ (n : ℕ) (small : (i j : ℕ) → m i j ≡ 1 → i < n) where
    pub path_ways : {i j : ℕ} → Plus (Leads m) i j → ways n m i j ≡ 1
    path_ways {i} (one {y} e) = stays n i y e
    path_ways {i} (snoc {y} {z} p e) = through n y i z (small y z e) (path_ways p) (stays n y z e)

    pub ways_iff : (i j : ℕ) → (ways n m i j ≡ 1) ↔ Plus (Leads m) i j
    ways_iff i j = (ways_path n i j, path_ways)
