-- A production by the tests of its parts. Assumes nothing.
use mathlib.Core.Path.{◌≡◌, sym, ap, ◌∙◌}
use mathlib.Core.Logic.{◌⊎◌, ⊎_elim}
use mathlib.Core.Bool.{Bool, true, false}
use Prim.Native.Nat.{ℕ, ◌-◌, ◌≤◌, ◌<◌}
use native.Mathlib.Omega.{arith}
use lib.Dec.{ltb}
use lib.ListN.{length, take, drop, length-drop}
use lib.Seq.{take_all}
use Rattle.numbers.specs.Lists.{every}
use Rattle.numbers.proofs.Decides.{not_so, refuted, same_test}
use Rattle.grammar.specs.declared.Production.{Production}
use Rattle.grammar.specs.Grammar.{rights}
use Rattle.grammar.specs.Refusal.{production_ok}
use Rattle.grammar.proofs.Decided.{rights_decide, production_decides}

-- of a production, which has m right symbols, and of n symbols
module _ (n m : ℕ) (p : Production) (is : m ≡ p.n) where
  pub bounds_bad : (n ≤ p.left) ⊎ ((p.left < n) × (7 < m)) → false ≡ production_ok n p
  bounds_bad h = sym (not_so (production_decides n p) (λ r. ⊎_elim (λ l. absurd (omega arith)) (λ l. absurd (omega arith)) h))

  pub rights_are : every (λ s. ltb s n) (take m p.slots) ≡ every (λ s. ltb s n) (rights p)
  rights_are = ap (λ (k : ℕ). every (λ s. ltb s n) (take k p.slots)) is

  pub rights_bad : {r : Bool} → r ≡ every (λ s. ltb s n) (take m p.slots) → r ≡ false → r ≡ production_ok n p
  rights_bad told h =
      h ∙ sym (not_so (production_decides n p) (λ w. refuted (rights_decide n (rights p)) (sym (told ∙ rights_are) ∙ h) w.right))

  module _ (left : p.left < n) (few : m ≤ 7) where
    spare_are : every (λ s. ltb s 1) (take (length p.slots - m) (drop m p.slots)) ≡ every (λ s. ltb s 1) (drop p.n p.slots)
    spare_are =
        ap (every (λ s. ltb s 1)) (take_all (length p.slots - m) (drop m p.slots) (omega (arith, length-drop m p.slots)))
        ∙ ap (λ (k : ℕ). every (λ s. ltb s 1) (drop k p.slots)) is

    pub spare_tells : {r t : Bool} → r ≡ every (λ s. ltb s n) (take m p.slots) → r ≡ true
        → t ≡ every (λ s. ltb s 1) (take (length p.slots - m) (drop m p.slots)) → t ≡ production_ok n p
    spare_tells told right spare =
        spare
        ∙ spare_are
        ∙ same_test
        (rights_decide 1 (drop p.n p.slots))
        (production_decides n p)
        (λ h.
        record {
          left = left;
          few = omega arith;
          right = (rights_decide n (rights p)).so (sym (told ∙ rights_are) ∙ right);
          spare = λ s m. omega (arith, h s m);
        })
        (λ r s m. omega (arith, r.spare s m))
