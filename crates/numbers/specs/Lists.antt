-- Runs of numbers, tests over the numbers below a bound and over a list, lists with no two equal elements, the order of lists, and what
-- is written over the front of a list. Assumes nothing.
use Rattle.std.specs.Prelude.{Bool, true, false, ◌||◌, cond, ◌⊎◌, ◌≡◌, ℕ, zero, suc, ◌<◌, ltb, eqb, length, drop}
use mathlib.Core.List.{List, [], ◌∷◌, ◌++◌, Memᴰ}

-- both tests pass
unfoldable pub both : Bool → Bool → Bool
both true b = b
both false b = false

-- the n numbers from i on
unfoldable pub up_from : ℕ → ℕ → List ℕ
up_from i zero = []
up_from i (suc n) = i ∷ up_from (suc i) n

-- the test passes at each number below n
unfoldable pub each_below : (ℕ → Bool) → ℕ → Bool
each_below f zero = true
each_below f (suc n) = both (f n) (each_below f n)

-- the test passes at some number below n
unfoldable pub some_below : (ℕ → Bool) → ℕ → Bool
some_below f zero = false
some_below f (suc n) = f n || some_below f n

module _ {A : Type 0} where
  -- the test passes at each element
  unfoldable pub every : (A → Bool) → List A → Bool
  every f [] = true
  every f (x ∷ xs) = both (f x) (every f xs)

  -- the elements at which the test passes, in order
  unfoldable pub keep : (A → Bool) → List A → List A
  keep f [] = []
  keep f (x ∷ xs) = cond (f x) (x ∷ keep f xs) (keep f xs)

  -- no two elements are equal
  abbrev pub Distinct : List A → Type 0
  Distinct [] = Unit {0}
  Distinct (x ∷ xs) = (¬ Memᴰ x xs) × Distinct xs

  -- `new` over the front of `old`, and the rest of `old` as before
  abbrev pub written : List A → List A → List A
  written new old = new ++ drop (length new) old

-- one list of numbers is below another of the same length: in the first field in which they differ
unfoldable pub below : List ℕ → List ℕ → Bool
below [] ys = false
below (x ∷ xs) [] = false
below (x ∷ xs) (y ∷ ys) = ltb x y || both (eqb x y) (below xs ys)

-- the same, as a statement
abbrev pub Below : List ℕ → List ℕ → Type 0
Below [] ys = ⊥
Below (x ∷ xs) [] = ⊥
Below (x ∷ xs) (y ∷ ys) = (x < y) ⊎ ((x ≡ y) × Below xs ys)
