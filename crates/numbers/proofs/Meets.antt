-- Two numbers met bit by bit: what they have in common. Assumes nothing.
use mathlib.Core.Path.{◌≡◌, refl, sym, ap, ◌∙◌}
use Prim.Native.Nat.{ℕ, zero, suc, ◌+◌, ◌*◌, ◌/◌, ◌%◌, ◌^◌, ◌≤◌, ◌<◌, min}
use native.Mathlib.Nat.{mod-lt, div-add-mod'}
use native.Mathlib.Decide.{ℕ_discrete}
use native.Mathlib.Omega.{arith}
use lib.Arith.{digits_mod}
use lib.Bits.{bit_and, and_shr, and_step}
use Rattle.numbers.specs.Number.{bit}
use Rattle.numbers.proofs.Bits.{bit_lt, bit_zero, bit_down, low_bit}

pub bit_of_and : (j a b : ℕ) → bit j (bit_and a b) ≡ min (bit j a) (bit j b)
bit_of_and j a b =
    ap (λ (x : ℕ). x % 2) (and_shr a b j ∙ and_step (a / 2 ^ j) (b / 2 ^ j))
    ∙ digits_mod (bit_and (a / 2 ^ j / 2) (b / 2 ^ j / 2)) (omega (arith, bit_lt j a, bit_lt j b))

-- a number that is not 0 has a bit; f is at least the number, so that the search ends
some_bit : (f x : ℕ) → x ≤ f → 0 < x → (j : ℕ) × (bit j x ≡ 1)
some_bit zero x l p = absurd (omega arith)
some_bit (suc f) x l p = go (ℕ_discrete (x % 2) 1) (some_bit f (x / 2))
  where
    whole : x / 2 * 2 + x % 2 ≡ x
    whole = div-add-mod' x 2

    low : x % 2 < 2
    low = mod-lt x (omega arith)

    go : Dec (x % 2 ≡ 1) → (x / 2 ≤ f → 0 < x / 2 → (j : ℕ) × (bit j (x / 2) ≡ 1)) → (j : ℕ) × (bit j x ≡ 1)
    go (yes e) r = (0, low_bit x ∙ e)
    go (no n) r =
        let b = r (omega (arith, whole)) (omega (arith, whole, low)) in
        (1 + b.0, sym (bit_down 1 b.0 x) ∙ b.1)

pub both_bits : (j a b : ℕ) → bit j (bit_and a b) ≡ 1 → (bit j a ≡ 1) × (bit j b ≡ 1)
both_bits j a b h =
    let e = bit_of_and j a b in
    let la = bit_lt j a in
    let lb = bit_lt j b in
    (omega arith, omega arith)

-- two numbers have something in common exactly if they have a bit in common
pub meets : (a b : ℕ) → 0 < bit_and a b → (j : ℕ) × (bit j a ≡ 1) × (bit j b ≡ 1)
meets a b p =
    let h = some_bit (bit_and a b) (bit_and a b) (omega arith) p in
    let q = both_bits h.0 a b h.1 in
    (h.0, q.0, q.1)

pub met : (j a b : ℕ) → bit j a ≡ 1 → bit j b ≡ 1 → bit j (bit_and a b) ≡ 1
met j a b p q = omega (arith, bit_of_and j a b)

pub met_pos : (j a b : ℕ) → bit j a ≡ 1 → bit j b ≡ 1 → 0 < bit_and a b
met_pos j a b p q = go (bit_and a b) refl
  where
    go : (x : ℕ) → bit_and a b ≡ x → 0 < bit_and a b
    go zero e = absurd (omega (arith, met j a b p q, ap (bit j) e, bit_zero j))
    go (suc x) e = omega arith
