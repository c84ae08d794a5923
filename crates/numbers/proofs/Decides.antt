-- A test that decides a statement, and such tests joined. Assumes nothing.
use mathlib.Core.Path.{◌≡◌, refl, sym, ap, subst, ◌∙◌}
use mathlib.Core.Bool.{Bool, true, false, ◌||◌, true≢false}
use mathlib.Core.List.Memᴰ
use mathlib.Core.List.{List, [], ◌∷◌, Memᴰ}
use mathlib.Core.Logic.{◌⊎◌, inl, inr, ⊎_elim}
use Prim.Native.Nat.{ℕ, ◌≤◌, ◌<◌}
use borrow.Author.Tests.{ltb-true, leb-true, eqb-true, lt-ltb, le-leb, eq-eqb}
use lib.Dec.{leb, ltb, eqb}
use Rattle.numbers.specs.Lists.{both, every, below, Below}

pub record Decides (b : Bool) (A : Type 0) : Type 0 where
  pub so : b ≡ true → A
  pub passes : A → b ≡ true

-- the test by its outcome
pub data Outcome (b : Bool) (A : Type 0) : Type 0 where
  holds : b ≡ true → A → Outcome b A
  fails : b ≡ false → (¬ A) → Outcome b A

module _ {b : Bool} {A : Type 0} (d : Decides b A) where
  pub refuted : b ≡ false → A → ⊥
  refuted e a = true≢false (sym (d.passes a) ∙ e)

  pub outcome : Outcome b A
  outcome = go b refl
    where
      go : (c : Bool) → b ≡ c → Outcome b A
      go true e = holds e (d.so e)
      go false e = fails e (refuted e)

  pub not_so : (¬ A) → b ≡ false
  not_so n = go b refl
    where
      go : (c : Bool) → b ≡ c → b ≡ false
      go true e = absurd (n (d.so e))
      go false e = e

-- tests that decide the same have the same outcome
pub same_test : {a b : Bool} {A B : Type 0} → Decides a A → Decides b B → (A → B) → (B → A) → a ≡ b
same_test {a} {b} {A} {B} d e f g = go (outcome d)
  where
    go : Outcome a A → a ≡ b
    go (holds t x) = t ∙ sym (e.passes (f x))
    go (fails t n) = t ∙ sym (not_so e (λ y. n (g y)))

pub le_decides : (m n : ℕ) → Decides (leb m n) (m ≤ n)
le_decides m n = record { so = leb-true m n; passes = le-leb m n }

pub lt_decides : (m n : ℕ) → Decides (ltb m n) (m < n)
lt_decides m n = record { so = ltb-true m n; passes = lt-ltb m n }

pub eq_decides : (m n : ℕ) → Decides (eqb m n) (m ≡ n)
eq_decides m n = record { so = eqb-true m n; passes = eq-eqb m n }

-- by another statement that says the same
pub says : {b : Bool} {A B : Type 0} → (A → B) → (B → A) → Decides b A → Decides b B
says f g d = record { so = λ e. f (d.so e); passes = λ x. d.passes (g x) }

pub both_decides : {a b : Bool} {A B : Type 0} → Decides a A → Decides b B → Decides (both a b) (A × B)
unfolding both
both_decides {a} {b} {A} {B} d e = go a refl
  where
    go : (c : Bool) → a ≡ c → Decides (both a b) (A × B)
    go true q =
        record { so = λ h. (d.so q, e.so (ap (λ t. both t b) (sym q) ∙ h)); passes = λ p. ap (λ t. both t b) q ∙ e.passes p.1 }
    go false q =
        record {
          so = λ h. absurd (true≢false (sym h ∙ ap (λ t. both t b) q));
          passes = λ p. absurd (true≢false (sym (d.passes p.0) ∙ q));
        }

module _ {A : Type 0} (f : A → Bool) (P : A → Type 0) (d : (x : A) → Decides (f x) (P x)) where
  pub every_decides : (l : List A) → Decides (every f l) ((x : A) → Memᴰ x l → P x)
  unfolding every
  every_decides [] = record { so = λ e x m. absurd (Memᴰ.not-nil m); passes = λ h. refl }
  every_decides (y ∷ l) =
      says
      (λ p x m. ⊎_elim (λ e. subst P (sym e) p.0) (λ m. p.1 x m) (Memᴰ.cases_cons m))
      (λ h. (h y (Memᴰ.head refl), λ x m. h x (Memᴰ.tail m)))
      (both_decides (d y) (every_decides l))

pub below_decides : (xs ys : List ℕ) → Decides (below xs ys) (Below xs ys)
unfolding below
below_decides [] ys = record { so = λ e. absurd (true≢false (sym e)); passes = λ h. absurd h }
below_decides (x ∷ xs) [] = record { so = λ e. absurd (true≢false (sym e)); passes = λ h. absurd h }
below_decides (x ∷ xs) (y ∷ ys) = or_decides (lt_decides x y) (both_decides (eq_decides x y) (below_decides xs ys))
  where
    or_decides : {a b : Bool} {A B : Type 0} → Decides a A → Decides b B → Decides (a || b) (A ⊎ B)
    or_decides {a} {b} {A} {B} d e = go a refl
      where
        go : (c : Bool) → a ≡ c → Decides (a || b) (A ⊎ B)
        go true q = record { so = λ h. inl (d.so q); passes = λ p. ap (λ t. t || b) q }
        go false q =
            record {
              so = λ h. inr (e.so (ap (λ t. t || b) (sym q) ∙ h));
              passes = λ p. ⊎_elim (λ x. absurd (true≢false (sym (d.passes x) ∙ q))) (λ y. ap (λ t. t || b) q ∙ e.passes y) p;
            }
