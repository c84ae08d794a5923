-- Pigeonholes: lists with no two equal elements are no longer than the list of their holes. Assumes nothing.
use mathlib.Core.List.Memᴰ
use mathlib.Core.List.{List, [], ◌∷◌, map, Memᴰ}
use mathlib.Core.Logic.{◌⊎◌, inr, ⊎_elim, ⊎_map}
use mathlib.Core.Path.{◌≡◌, refl, sym, ◌∙◌, ap}
use Prim.Native.Nat.{ℕ, suc, ◌≤◌, ◌<◌}
use native.Mathlib.Omega.{arith}
use lib.ListN.{length, length-map}
use Rattle.numbers.specs.Lists.{up_from, Distinct}
use Rattle.numbers.proofs.Ranges.{length_up_from}
use Rattle.numbers.proofs.Members.{at_cons, up_from_at}

-- the list with z taken out once
pub record Without {A : Type 0} (z : A) (l : List A) : Type 0 where
  pub rest : List A
  pub shorter : length l ≡ suc (length rest)
  pub others : (x : A) → Memᴰ x l → (x ≡ z) ⊎ Memᴰ x rest

pub without : {A : Type 0} {z : A} {l : List A} → Memᴰ z l → Without z l
without {z = z} (Memᴰ.head {xs = xs} e) =
    record { rest = xs; shorter = refl; others = λ x m. ⊎_map (λ q. q ∙ sym e) (λ k. k) (Memᴰ.cases_cons m) }
without {z = z} (Memᴰ.tail {x = y} m) =
    let r = without m in
    record {
      rest = y ∷ r.rest;
      shorter = ap suc r.shorter;
      others =
          λ x.
          at_cons (λ v. (v ≡ z) ⊎ Memᴰ v (y ∷ r.rest)) (inr (Memᴰ.head refl))
          (λ k. ⊎_map (λ e. e) Memᴰ.tail (r.others x k));
    }

-- different elements, each of which is among the holes, are no more than the holes
pub pigeons : {A : Type 0} (l holes : List A) → Distinct l → ((x : A) → Memᴰ x l → Memᴰ x holes) → length l ≤ length holes
pigeons [] holes d h = omega arith
pigeons (x ∷ l) holes (n, d) h =
    let w = without (h x (Memᴰ.head refl)) in
    omega (
      arith,
      w.shorter,
      pigeons l w.rest d (λ y m. ⊎_elim (λ e. absurd (n (Memᴰ.cast (sym e) m))) (λ k. k) (w.others y (h y (Memᴰ.tail m)))),
    )

-- the same where the holes are f 0 to f (n - 1)
pub pigeons_numbered :
    {A : Type 0} (f : ℕ → A) (n : ℕ) (l : List A)
    → Distinct l → ((x : A) → Memᴰ x l → (k : ℕ) × (k < n) × (f k ≡ x)) → length l ≤ n
pigeons_numbered {A} f n l d h = omega (arith, pigeons l (map f (up_from 0 n)) d hole, length-map (up_from 0 n) f, length_up_from 0 n)
  where
    hole : (x : A) → Memᴰ x l → Memᴰ x (map f (up_from 0 n))
    hole x m =
        let r = h x m in
        Memᴰ.cast (sym r.2) (Memᴰ.map f (up_from_at 0 n r.0 (omega arith) (omega (arith, r.1))))
