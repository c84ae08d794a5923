-- How many symbols a set has: one that has no fewer than another around it is the same. Assumes nothing.
use mathlib.Core.Path.{◌≡◌, refl, sym, ◌∙◌}
use mathlib.Core.Bool.{Bool, true, false, true≢false}
use mathlib.Core.Logic.{◌⊎◌, inl, inr, ⊎_elim}
use Prim.Native.Nat.{ℕ, zero, suc, ◌≤◌, ◌<◌}
use native.Mathlib.Nat.{eq-or-lt_of_le, le_of_suc-le-suc}
use native.Mathlib.Decide.{dec_le}
use native.Mathlib.Omega.{arith}
use Rattle.parts.specs.Sets.{Symbols, has}
use Rattle.parts.proofs.Sets.{In, Within, IsSet, in_low, same_sets_lem}

one_if : Bool → ℕ → ℕ
one_if true k = suc k
one_if false k = k

-- of the symbols below n
count : ℕ → Symbols → ℕ
count zero A = 0
count (suc n) A = one_if (has A n) (count n A)

-- what holds below n and at n holds below n + 1
below_suc : (P : ℕ → Type 0) (n : ℕ) → ((s : ℕ) → s < n → P s) → P n → (s : ℕ) → s < suc n → P s
below_suc P n h z s l = ⊎_elim (λ e. rw e z) (λ k. h s k) (eq-or-lt_of_le (le_of_suc-le-suc l))

count_most : (n : ℕ) (A : Symbols) → count n A ≤ n
unfolding count one_if
count_most zero A = omega arith
count_most (suc n) A = go (has A n) (count_most n A)
  where
    go : (b : Bool) → count n A ≤ n → one_if b (count n A) ≤ suc n
    go true l = omega arith
    go false l = omega arith

count_more : (n : ℕ) (A B : Symbols) → Within A B → count n A ≤ count n B
unfolding count one_if
count_more zero A B w = omega arith
count_more (suc n) A B w = go (has A n) (has B n) refl refl (count_more n A B w)
  where
    go : (a b : Bool) → has A n ≡ a → has B n ≡ b → count n A ≤ count n B → one_if a (count n A) ≤ one_if b (count n B)
    go true true p q l = omega arith
    go true false p q l = absurd (true≢false (sym (w n p) ∙ q))
    go false true p q l = omega arith
    go false false p q l = l

-- a set around A that has no more below n has no other there
count_same : (n : ℕ) (A B : Symbols) → Within A B → count n B ≤ count n A → (s : ℕ) → s < n → In B s → In A s
unfolding count one_if
count_same zero A B w l s h i = absurd (omega arith)
count_same (suc n) A B w l s h i =
    go (has A n) (has B n) refl refl (count_more n A B w) l (λ k. count_same n A B w k)
  where
    go :
        (a b : Bool) → has A n ≡ a → has B n ≡ b → count n A ≤ count n B → one_if b (count n B) ≤ one_if a (count n A)
        → (count n B ≤ count n A → (s : ℕ) → s < n → In B s → In A s)
        → In A s
    go true true p q m k ih = below_suc (λ s. In B s → In A s) n (ih (omega arith)) (λ _. p) s h i
    go true false p q m k ih = absurd (true≢false (sym (w n p) ∙ q))
    go false true p q m k ih = absurd (omega arith)
    go false false p q m k ih = below_suc (λ s. In B s → In A s) n (ih k) (λ z. absurd (true≢false (sym z ∙ q))) s h i

-- a set that has n symbols below n has them all
count_full : (n : ℕ) (A : Symbols) → n ≤ count n A → (s : ℕ) → s < n → In A s
unfolding count one_if
count_full zero A l s h = absurd (omega arith)
count_full (suc n) A l s h = go (has A n) refl (count_most n A) l (count_full n A)
  where
    go :
        (a : Bool) → has A n ≡ a → count n A ≤ n → suc n ≤ one_if a (count n A)
        → (n ≤ count n A → (s : ℕ) → s < n → In A s)
        → In A s
    go true p m k ih = below_suc (In A) n (ih (omega arith)) p s h
    go false p m k ih = absurd (omega arith)

-- ---- of all 256
pub size : Symbols → ℕ
size A = count 256 A

pub size_most : (A : Symbols) → size A ≤ 256
unfolding size
size_most A = count_most 256 A

pub size_more : (A B : Symbols) → Within A B → size A ≤ size B
unfolding size
size_more A B w = count_more 256 A B w

pub size_full : (A : Symbols) → 256 ≤ size A → (s : ℕ) → s < 256 → In A s
unfolding size
size_full A l = count_full 256 A l

-- a set around A is A, or has more symbols
pub same_or_more : (A B : Symbols) → IsSet A → IsSet B → Within A B → (B ≡ A) ⊎ (size A < size B)
unfolding size
same_or_more A B i j w = go (dec_le (count 256 B) (count 256 A))
  where
    go : Dec (count 256 B ≤ count 256 A) → (B ≡ A) ⊎ (count 256 A < count 256 B)
    go (yes l) = inl (same_sets_lem B A j i (λ s h. count_same 256 A B w l s (in_low B s j.four h) h) w)
    go (no l) = inr (omega arith)
