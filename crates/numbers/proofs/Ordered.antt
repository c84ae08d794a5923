-- The order of lists: transitive, by the first field, field by field; what is in a list stands at some number. Assumes nothing.
use mathlib.Core.Path.{◌≡◌, refl, ◌∙◌}
use mathlib.Core.Bool.{Bool, true, false, or-false}
use mathlib.Core.List.{List, [], ◌∷◌, Memᴰ}
use mathlib.Core.Logic.{inl, inr}
use Prim.Native.Nat.{ℕ, zero, suc, ◌≤◌, ◌<◌, suc-le-suc, zero-le}
use native.Mathlib.Omega.{arith}
use borrow.Author.Tests.{eq-eqb, ne_eqb, le-ltb}
use lib.Dec.{ltb, eqb}
use lib.ListN.{length, get_or}
use Rattle.numbers.specs.Lists.{both, below, Below}

pub below_trans : (xs ys zs : List ℕ) → Below xs ys → Below ys zs → Below xs zs
below_trans [] ys zs p q = absurd p
below_trans (x ∷ xs) [] zs p q = absurd p
below_trans (x ∷ xs) (y ∷ ys) [] p q = absurd q
below_trans (x ∷ xs) (y ∷ ys) (z ∷ zs) (inl p) (inl q) = inl (omega arith)
below_trans (x ∷ xs) (y ∷ ys) (z ∷ zs) (inl p) (inr q) =
    let e = q.0 in
    inl (omega arith)
below_trans (x ∷ xs) (y ∷ ys) (z ∷ zs) (inr p) (inl q) =
    let e = p.0 in
    inl (omega arith)
below_trans (x ∷ xs) (y ∷ ys) (z ∷ zs) (inr p) (inr q) = inr (p.0 ∙ q.0, below_trans xs ys zs p.1 q.1)

pub below_first : (xs ys : List ℕ) → Below xs ys → get_or xs 0 0 ≤ get_or ys 0 0
below_first [] ys p = absurd p
below_first (x ∷ xs) [] p = absurd p
below_first (x ∷ xs) (y ∷ ys) (inl p) = omega arith
below_first (x ∷ xs) (y ∷ ys) (inr p) =
    let e = p.0 in
    omega arith

pub stands_at : {A : Type 0} (d x : A) (l : List A) → Memᴰ x l → (i : ℕ) × (i < length l) × (x ≡ get_or l i d)
stands_at {A = A} d x [] m = elim m [ ]
stands_at d x (y ∷ l) (Memᴰ.head e) = (zero, suc-le-suc zero-le, e)
stands_at d x (y ∷ l) (Memᴰ.tail m) =
    let r = stands_at d x l m in
    (suc r.0, suc-le-suc r.1, r.2)

-- ---- the order field by field
both_false : (b : Bool) → both b false ≡ false
unfolding both
both_false true = refl
both_false false = refl

module _ (x y : ℕ) (xs ys : List ℕ) where
  pub below_differ : (x ≡ y → ⊥) → below (x ∷ xs) (y ∷ ys) ≡ ltb x y
  unfolding below both
  below_differ h = rw (ne_eqb x y h) (or-false (ltb x y))

  pub below_same : x ≡ y → below (x ∷ xs) (y ∷ ys) ≡ below xs ys
  unfolding below both
  below_same h = simp (eq-eqb x y h, le-ltb x y (omega arith))

pub below_last : (x y : ℕ) → below (x ∷ []) (y ∷ []) ≡ ltb x y
unfolding below
below_last x y = rw (both_false (eqb x y)) (or-false (ltb x y))
