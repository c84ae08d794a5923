-- The symbol at an occurrence, and the bit of an attribute, as the code finds them. Assumes nothing.
use mathlib.Core.Path.{◌≡◌, refl, sym, ap, ◌∙◌}
use Prim.Native.Nat.{ℕ, zero, suc, ◌-◌, ◌*◌, ◌%◌, ◌^◌, ◌≤◌, ◌<◌, min}
use native.Mathlib.Nat.{one-mul, div-eq_of_lt, lt_of_lt_of_le}
use native.Mathlib.Omega.{arith}
use lib.Dec.{eqb}
use lib.ListN.{length, get_or, take, length-take, get_or-eq_default}
use lib.Pow.{shl_exact, pow_mono}
use lib.Seq.{get_or-take}
use Rattle.numbers.specs.Number.{bit}
use Rattle.grammar.specs.declared.Production.{Production}
use Rattle.grammar.specs.Grammar.{symbol_at}
use Rattle.grammar.specs.Refusal.{allowed}

module _ (p : Production) where
  pub at_left : (o : ℕ) → o ≡ 0 → p.left ≡ symbol_at p o
  unfolding symbol_at
  at_left zero e = refl
  at_left (suc o) e = absurd (omega arith)

  pub at_right : (o : ℕ) → (o ≡ 0 → ⊥) → o - 1 < p.n → get_or p.slots (o - 1) 0 ≡ symbol_at p o
  unfolding symbol_at
  at_right zero h l = absurd (h refl)
  at_right (suc o) h l =
      let e : suc o - 1 ≡ o = omega arith in
      rw e (sym (get_or-take p.n p.slots o 0 (omega arith)))

  pub at_none : (o : ℕ) → (o ≡ 0 → ⊥) → min p.n (length p.slots) ≤ o - 1 → 0 ≡ symbol_at p o
  unfolding symbol_at
  at_none zero h l = absurd (h refl)
  at_none (suc o) h l =
      sym (get_or-eq_default (take p.n p.slots) 0 (omega (arith, length-take p.n p.slots)))

-- ---- masks of 16 bits
pub bit_beyond : (k x : ℕ) → x < 65536 → 15 < k → 0 ≡ bit k x
bit_beyond k x h l = sym (ap (λ q. q % 2) (div-eq_of_lt (lt_of_lt_of_le h (pow_mono {i = 16} {j = k} l))))

pub mask_end : (k : ℕ) → k ≤ 8 → (1 * 2 ^ k) % 65536 ≡ 2 ^ k
mask_end k h = shl_exact 1 k 16 (omega arith) (omega arith) ∙ one-mul (2 ^ k)

-- ---- a target by its occurrence
pub allowed_left : (o i : ℕ) → o ≡ 0 → eqb i 0 ≡ allowed o i
unfolding allowed
allowed_left zero i h = refl
allowed_left (suc o) i h = absurd (omega arith)

pub allowed_right : (o i : ℕ) → (o ≡ 0 → ⊥) → eqb i 1 ≡ allowed o i
unfolding allowed
allowed_right zero i h = absurd (h refl)
allowed_right (suc o) i h = refl
