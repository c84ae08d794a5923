-- The node from which the circle is written: of the nodes with a shortest path back to themselves, the smallest. Assumes nothing.
use mathlib.Core.Path.{◌≡◌, refl}
use mathlib.Core.Bool.{Bool, true, false, cond}
use mathlib.Core.List.{List}
use Prim.Native.Nat.{ℕ, zero, suc, ◌≤◌, ◌<◌}
use native.Mathlib.Decide.{ℕ_discrete}
use native.Mathlib.Omega.{arith}
use borrow.Author.Tests.{ltb-true, ltb-false}
use lib.Dec.{ltb}
use lib.ListN.{length}
use Rattle.graph.specs.declared.Nearest.{Nearest}
use Rattle.graph.specs.Search.{between, nearer, nearest_to}

module _ (rows : List ℕ) where
  -- among the nodes below n; where none has such a path, `between` is the number of nodes
  pub record IsNearest (n : ℕ) (b : Nearest) : Type 0 where
    pub short : (s : ℕ) → s < n → b.between ≤ between rows s s
    pub there : b.between < length rows → (b.start < n) × (between rows b.start b.start ≡ b.between)
    pub first : (s : ℕ) → s < n → between rows s s ≡ b.between → b.between < length rows → b.start ≤ s

  -- one node more: it is nearer, or it is not
  module _ (n : ℕ) (b : Nearest) (r : IsNearest n b) where
    with_nearer : between rows n n < b.between → IsNearest (suc n) (record { start = n; between = between rows n n })
    with_nearer l = record {
      short = λ s h. by s h (ℕ_discrete s n);
      there = λ h. (omega arith, refl);
      first = λ s h q k. at s h q (ℕ_discrete s n);
    }
      where
        by : (s : ℕ) → s < suc n → Dec (s ≡ n) → between rows n n ≤ between rows s s
        by s h (yes q) = rw q (omega arith)
        by s h (no f) = omega (arith, r.short s (omega arith))

        at : (s : ℕ) → s < suc n → between rows s s ≡ between rows n n → Dec (s ≡ n) → n ≤ s
        at s h q (yes w) = omega arith
        at s h q (no f) = absurd (omega (arith, r.short s (omega arith)))

    with_farther : b.between ≤ between rows n n → IsNearest (suc n) b
    with_farther l = record {
      short = λ s h. by s h (ℕ_discrete s n);
      there = λ h. let t = r.there h in (omega (arith, t.0), t.1);
      first = λ s h q k. at s h q k (ℕ_discrete s n);
    }
      where
        by : (s : ℕ) → s < suc n → Dec (s ≡ n) → b.between ≤ between rows s s
        by s h (yes q) = rw q l
        by s h (no f) = r.short s (omega arith)

        at : (s : ℕ) → s < suc n → between rows s s ≡ b.between → b.between < length rows → Dec (s ≡ n) → b.start ≤ s
        at s h q k (yes w) = omega (arith, (r.there k).0)
        at s h q k (no f) = r.first s (omega arith) q k

  pub nearest_is : (n : ℕ) → IsNearest n (nearest_to n rows)
  unfolding nearest_to nearer
  nearest_is zero = record {
    short = λ s l. absurd (omega arith);
    there = λ l. absurd (omega arith);
    first = λ s l e k. absurd (omega arith);
  }
  nearest_is (suc n) = go (ltb (between rows n n) (nearest_to n rows).between) refl (nearest_is n)
    where
      go : (t : Bool) → ltb (between rows n n) (nearest_to n rows).between ≡ t → IsNearest n (nearest_to n rows)
          → IsNearest (suc n) (cond t (record { start = n; between = between rows n n }) (nearest_to n rows))
      go true e r = with_nearer n (nearest_to n rows) r (ltb-true _ _ e)
      go false e r = with_farther n (nearest_to n rows) r (ltb-false _ _ e)
