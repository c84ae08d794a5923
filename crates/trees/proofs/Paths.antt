-- Paths: composition, images, ranks. Assumes nothing.
use Prim.Native.Nat.{ℕ, ◌<◌}
use native.Mathlib.Omega.{arith}
use Rattle.numbers.specs.Paths.{Plus, one, snoc, Circle}
use Rattle.numbers.proofs.Ways.{on}

-- a path of zero or more edges
pub data Star {A : Type 0} (E : A → A → Type 0) (x : A) : A → Type 0 where
  stay : Star E x x
  go : {y : A} → Plus E x y → Star E x y

module _ {A : Type 0} {E : A → A → Type 0} where
  pub star_plus : {x y z : A} → Star E x y → Plus E y z → Plus E x z
  star_plus stay q = q
  star_plus (go p) q = on p q

  pub plus_star : {x y z : A} → Plus E x y → Star E y z → Plus E x z
  plus_star p stay = p
  plus_star p (go q) = on p q

  pub star_star : {x y z : A} → Star E x y → Star E y z → Star E x z
  star_star stay q = q
  star_star (go p) q = go (plus_star p q)

  -- on a circle the value before x is on a circle too
  pub before : {x : A} → Plus E x x → (z : A) × E z x × Plus E z z
  before {x} (one e) = (x, e, one e)
  before (snoc {y = z} p e) = (z, e, on (one e) p)

-- a map that takes each edge to a path takes each path to a path
pub image :
    {A B : Type 0} {E : A → A → Type 0} {F : B → B → Type 0} (f : A → B)
    → ((x y : A) → E x y → Plus F (f x) (f y))
    → {x y : A} → Plus E x y → Plus F (f x) (f y)
image f h {x} {y} (one e) = h x y e
image f h {x} (snoc {y = y} {z = z} p e) = on (image f h p) (h y z e)

-- where each edge leads to a greater rank there is no circle
module _ {A : Type 0} {E : A → A → Type 0} (rank : A → ℕ) (up : (x y : A) → E x y → rank x < rank y) where
  ascends : {x y : A} → Plus E x y → rank x < rank y
  ascends {x} {y} (one e) = up x y e
  ascends (snoc {y = y} {z = z} p e) = omega (arith, ascends p, up y z e)

  pub no_circle : ¬ Circle E
  no_circle (x, p) = omega (arith, ascends p)
