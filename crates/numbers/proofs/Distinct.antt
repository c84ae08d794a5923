-- Lists with no two equal elements. Assumes nothing.
use mathlib.Core.List.Memᴰ
use mathlib.Core.List.{List, [], ◌∷◌, ◌++◌, map, Memᴰ}
use mathlib.Core.Bool.{Bool, true, false, cond}
use mathlib.Core.Logic.{⊎_elim}
use mathlib.Core.Path.{◌≡◌, refl, sym}
use Prim.Native.Nat.{ℕ, zero, suc}
use native.Mathlib.Omega.{arith}
use Rattle.numbers.specs.Lists.{up_from, keep, Distinct}
use Rattle.numbers.proofs.Members.{keep_mem, up_from_mem}

pub distinct_up_from : (i n : ℕ) → Distinct (up_from i n)
unfolding up_from
distinct_up_from i zero = tt
distinct_up_from i (suc n) = (λ m. absurd (omega (arith, (up_from_mem (suc i) n m).0)), distinct_up_from (suc i) n)

pub distinct_map :
    {A B : Type 0} (f : A → B) (l : List A)
    → ((x y : A) → Memᴰ x l → Memᴰ y l → f x ≡ f y → x ≡ y) → Distinct l → Distinct (map f l)
distinct_map f [] inj d = tt
distinct_map f (x ∷ l) inj (n, d) = (
  λ m. let r = Memᴰ.of_map f l m in n (Memᴰ.cast (inj x r.0 (Memᴰ.head refl) (Memᴰ.tail r.1) (sym r.2)) r.1),
  distinct_map f l (λ y z k m. inj y z (Memᴰ.tail k) (Memᴰ.tail m)) d,
)

pub distinct_append :
    {A : Type 0} (l r : List A) → Distinct l → Distinct r → ((x : A) → Memᴰ x l → ¬ Memᴰ x r) → Distinct (l ++ r)
distinct_append [] r d e h = e
distinct_append (x ∷ l) r (n, d) e h =
    (λ m. ⊎_elim n (h x (Memᴰ.head refl)) (Memᴰ.append_cases l m), distinct_append l r d e (λ y m. h y (Memᴰ.tail m)))

pub distinct_keep : {A : Type 0} (t : A → Bool) (l : List A) → Distinct l → Distinct (keep t l)
unfolding keep
distinct_keep t [] d = tt
distinct_keep {A} t (x ∷ l) (n, d) = go (t x) (distinct_keep t l d)
  where
    go : (b : Bool) → Distinct (keep t l) → Distinct (cond b (x ∷ keep t l) (keep t l))
    go true e = (λ m. n (keep_mem t l m).0, e)
    go false e = e
