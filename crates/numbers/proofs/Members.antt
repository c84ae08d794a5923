-- Members of lists: at a number, of what a test keeps, of a run of numbers; and what stands at a number of a list that is made by a
-- function. Assumes nothing.
use mathlib.Core.Path.{◌≡◌, refl, sym, ap, ◌∙◌, subst}
use mathlib.Core.Logic.{◌⊎◌, inl, inr, ⊎_elim}
use mathlib.Core.Bool.{Bool, true, false, cond, true≢false}
use mathlib.Core.List.Memᴰ
use mathlib.Core.List.{List, [], ◌∷◌, ◌++◌, map, append-nil, Memᴰ}
use Prim.Native.Nat.{ℕ, zero, suc, ◌+◌, ◌≤◌, ◌<◌}
use native.Mathlib.Omega.{arith}
use native.Mathlib.Decide.{ℕ_discrete}
use lib.ListN.{length, get_or}
use Rattle.numbers.specs.Lists.{up_from, keep}

module _ {A : Type 0} where
  -- what holds of the head and of the members of the tail
  pub at_cons : (P : A → Type 0) {y x : A} {xs : List A} → P y → (Memᴰ x xs → P x) → Memᴰ x (y ∷ xs) → P x
  at_cons P h k m = ⊎_elim (λ e. subst P (sym e) h) k (Memᴰ.cases_cons m)

  pub member_at : (d : A) (xs : List A) (i : ℕ) → i < length xs → Memᴰ (get_or xs i d) xs
  member_at d [] i l = absurd (omega arith)
  member_at d (x ∷ xs) zero l = Memᴰ.head refl
  member_at d (x ∷ xs) (suc i) l = Memᴰ.tail (member_at d xs i (omega arith))

  pub keep_at : (t : A → Bool) (xs : List A) {x : A} → Memᴰ x xs → t x ≡ true → Memᴰ x (keep t xs)
  unfolding keep
  keep_at t [] m h = absurd (Memᴰ.not-nil m)
  keep_at t (y ∷ xs) {x} m h = go (t y) refl (Memᴰ.cases_cons m) (keep_at t xs)
    where
      go : (b : Bool) → t y ≡ b → (x ≡ y) ⊎ Memᴰ x xs → (Memᴰ x xs → t x ≡ true → Memᴰ x (keep t xs))
          → Memᴰ x (cond b (y ∷ keep t xs) (keep t xs))
      go true q (inl e) k = Memᴰ.head e
      go true q (inr n) k = Memᴰ.tail (k n h)
      go false q (inl e) k = absurd (true≢false (sym h ∙ ap t e ∙ q))
      go false q (inr n) k = k n h

  pub keep_mem : (t : A → Bool) (xs : List A) {x : A} → Memᴰ x (keep t xs) → Memᴰ x xs × (t x ≡ true)
  unfolding keep
  keep_mem t [] m = absurd (Memᴰ.not-nil m)
  keep_mem t (y ∷ xs) {x} m = go (t y) refl m (keep_mem t xs)
    where
      go : (b : Bool) → t y ≡ b → Memᴰ x (cond b (y ∷ keep t xs) (keep t xs))
          → (Memᴰ x (keep t xs) → Memᴰ x xs × (t x ≡ true)) → Memᴰ x (y ∷ xs) × (t x ≡ true)
      go true q n k =
          at_cons (λ z. Memᴰ z (y ∷ xs) × (t z ≡ true)) (Memᴰ.head refl, q)
          (λ o. let r = k o in (Memᴰ.tail r.0, r.1)) n
      go false q n k = let r = k n in (Memᴰ.tail r.0, r.1)

-- ---- the numbers from i on

pub up_from_at : (i n k : ℕ) → i ≤ k → k < i + n → Memᴰ k (up_from i n)
unfolding up_from
up_from_at i zero k l h = absurd (omega arith)
up_from_at i (suc n) k l h = go (ℕ_discrete k i) (up_from_at (suc i) n k)
  where
    go : Dec (k ≡ i) → (suc i ≤ k → k < suc i + n → Memᴰ k (up_from (suc i) n)) → Memᴰ k (i ∷ up_from (suc i) n)
    go (yes e) ih = Memᴰ.head e
    go (no d) ih = Memᴰ.tail (ih (omega arith) (omega arith))

pub up_from_mem : (i n : ℕ) {k : ℕ} → Memᴰ k (up_from i n) → (i ≤ k) × (k < i + n)
unfolding up_from
up_from_mem i zero m = absurd (Memᴰ.not-nil m)
up_from_mem i (suc n) m =
    at_cons (λ z. (i ≤ z) × (z < i + suc n)) (omega arith, omega arith)
    (λ o. let r = up_from_mem (suc i) n o in (omega (arith, r.0), omega (arith, r.1))) m

-- ---- a list that is made by a function, whatever follows it

module _ {A B : Type 0} (f : A → B) (a : A) (d : B) where
  pub at_front : (xs : List A) (rest : List B) (i : ℕ) → i < length xs → get_or (map f xs ++ rest) i d ≡ f (get_or xs i a)
  at_front [] rest i l = absurd (omega arith)
  at_front (x ∷ xs) rest zero l = refl
  at_front (x ∷ xs) rest (suc i) l = at_front xs rest i (omega arith)

  pub at_map : (xs : List A) (i : ℕ) → i < length xs → get_or (map f xs) i d ≡ f (get_or xs i a)
  at_map xs i l = ap (λ ys. get_or ys i d) (sym (append-nil (map f xs))) ∙ at_front xs [] i l
