-- Paths in a relation, and circles. Assumes nothing.
use Rattle.std.specs.Prelude.{◌≡◌, ℕ}

-- a path of one or more edges of E from x
pub data Plus {A : Type 0} (E : A → A → Type 0) (x : A) : A → Type 0 where
  one : {y : A} → E x y → Plus E x y
  snoc : {y z : A} → Plus E x y → E y z → Plus E x z

-- a circle: a path of one or more edges back to where it began
abbrev pub Circle : {A : Type 0} → (A → A → Type 0) → Type 0
Circle {A} E = (x : A) × Plus E x x

-- m i j is 1 where an edge leads from i to j, and 0 elsewhere
abbrev pub Leads : (ℕ → ℕ → ℕ) → ℕ → ℕ → Type 0
Leads m i j = m i j ≡ 1
