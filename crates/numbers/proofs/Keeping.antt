-- What a test keeps of a list that is made of a range; ranges put together and moved. Assumes nothing.
use mathlib.Core.Path.{◌≡◌, refl, sym, ap, ap₂, ◌∙◌}
use mathlib.Core.Bool.{Bool, true, false, cond}
use mathlib.Core.List.{List, [], ◌∷◌, ◌++◌, map}
use Prim.Native.Nat.{ℕ, zero, suc, ◌+◌, ◌≤◌, ◌<◌}
use native.Mathlib.Nat.{add-zero, add-suc, zero-add}
use native.Mathlib.Omega.{arith}
use Rattle.numbers.specs.Lists.{up_from, keep}

-- a range is its first m numbers and the n after them
pub up_from_split : (i m n : ℕ) → up_from i (m + n) ≡ up_from i m ++ up_from (i + m) n
unfolding up_from
up_from_split i zero n = ap₂ up_from (sym (add-zero i)) (zero-add n)
up_from_split i (suc m) n =
    let e : suc m + n ≡ suc (m + n) = omega arith in
    let d : suc i + m ≡ i + suc m = omega arith in
    rw e (ap (λ l. i ∷ l) (up_from_split (suc i) m n ∙ ap (λ k. up_from (suc i) m ++ up_from k n) d))

pub up_more : (n m : ℕ) → up_from 0 n ++ up_from n m ≡ up_from 0 (n + m)
up_more n m = sym (up_from_split 0 n m ∙ ap (λ k. up_from 0 n ++ up_from k m) (zero-add n))

module _ {A : Type 0} where
  -- equal at each number of the range
  pub map_same :
      (f g : ℕ → A) (i n : ℕ)
      → ((k : ℕ) → i ≤ k → k < i + n → f k ≡ g k)
      → map f (up_from i n) ≡ map g (up_from i n)
  unfolding up_from
  map_same f g i zero h = refl
  map_same f g i (suc n) h =
      ap₂ ◌∷◌ (h i (omega arith) (omega arith)) (map_same f g (suc i) n (λ k l u. h k (omega arith) (omega arith)))

  -- the range from i on, counted from 0
  pub map_moved : (f : ℕ → A) (i n : ℕ) → map (λ k. f (i + k)) (up_from 0 n) ≡ map f (up_from i n)
  unfolding up_from
  map_moved f i n = from 0 i n ∙ ap (λ k. map f (up_from k n)) (add-zero i)
    where
      from : (j i n : ℕ) → map (λ k. f (i + k)) (up_from j n) ≡ map f (up_from (i + j) n)
      from j i zero = refl
      from j i (suc n) = ap (λ l. f (i + j) ∷ l) (from (suc j) i n ∙ ap (λ k. map f (up_from k n)) (add-suc i j))

  module _ (t : A → Bool) where
    pub keep_append : (l m : List A) → keep t (l ++ m) ≡ keep t l ++ keep t m
    unfolding keep
    keep_append [] m = refl
    keep_append (x ∷ l) m = go (t x) (keep_append l m)
      where
        go :
            (b : Bool)
            → keep t (l ++ m) ≡ keep t l ++ keep t m
            → cond b (x ∷ keep t (l ++ m)) (keep t (l ++ m)) ≡ cond b (x ∷ keep t l) (keep t l) ++ keep t m
        go true e = ap (λ r. x ∷ r) e
        go false e = e

    module _ (f : ℕ → A) where
      pub keep_none :
          (i n : ℕ) → ((k : ℕ) → i ≤ k → k < i + n → t (f k) ≡ false) → keep t (map f (up_from i n)) ≡ []
      unfolding keep up_from
      keep_none i zero h = refl
      keep_none i (suc n) h =
          rw (h i (omega arith) (omega arith)) (keep_none (suc i) n (λ k l u. h k (omega arith) (omega arith)))

      pub keep_all :
          (i n : ℕ)
          → ((k : ℕ) → i ≤ k → k < i + n → t (f k) ≡ true)
          → keep t (map f (up_from i n)) ≡ map f (up_from i n)
      unfolding keep up_from
      keep_all i zero h = refl
      keep_all i (suc n) h =
          rw
          (h i (omega arith) (omega arith))
          (ap (λ l. f i ∷ l) (keep_all (suc i) n (λ k l u. h k (omega arith) (omega arith))))
