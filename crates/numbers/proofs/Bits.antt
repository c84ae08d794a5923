-- The bits of a number that is joined, cut, shifted up or shifted down. Assumes nothing.
use mathlib.Core.Path.{◌≡◌, refl, sym, ap, ap₂, ◌∙◌}
use mathlib.Core.Logic.{◌⊎◌, inl, inr, ◌↔◌}
use Prim.Native.Nat.{ℕ, zero, suc, ◌+◌, ◌*◌, ◌/◌, ◌%◌, ◌^◌, ◌-◌, ◌≤◌, ◌<◌, max}
use native.Mathlib.Nat.{add-zero, div-add-mod', div-eq_of_lt, div-one, lt_of_lt_of_le, mod-eq_of_lt, mod-lt, mul_assoc, one-mul, zero-div}
use native.Mathlib.Decide.{dec_lt, ℕ_discrete}
use native.Mathlib.Numerals.{add-one}
use native.Mathlib.Omega.{arith}
use lib.Arith.{digits_mod}
use lib.Bits.{bit_and, bit_or, and_mask, mask_lt, or_shr, or_step, shifted_even}
use lib.Pow.{field, mod-mod-pow, pow-add, pow-lt, pow_mono, pow_pos, shl_exact, shl-shr, shr_lt, shr-shr}
use Rattle.numbers.specs.Number.{bit}

pub bit_lt : (j x : ℕ) → bit j x < 2
bit_lt j x = mod-lt (x / 2 ^ j) (omega arith)

pub bit_zero : (j : ℕ) → bit j 0 ≡ 0
bit_zero j = ap (λ (x : ℕ). x % 2) (zero-div (2 ^ j))

pub or_low : (a b : ℕ) → bit_or a b % 2 ≡ max (a % 2) (b % 2)
or_low a b = ap (λ (x : ℕ). x % 2) (or_step a b) ∙ digits_mod (bit_or (a / 2) (b / 2)) (omega arith)

pub bit_of_or : (j a b : ℕ) → bit j (bit_or a b) ≡ max (bit j a) (bit j b)
bit_of_or j a b = ap (λ (x : ℕ). x % 2) (or_shr a b j) ∙ or_low (a / 2 ^ j) (b / 2 ^ j)

-- a number below 2 ^ k has no bit from k on
pub bit_past : (k j : ℕ) {x : ℕ} → x < 2 ^ k → k ≤ j → bit j x ≡ 0
bit_past k j h l = ap (λ (y : ℕ). y % 2) (div-eq_of_lt (lt_of_lt_of_le h (pow_mono l)))

pub bit_down : (k j x : ℕ) → bit j (x / 2 ^ k) ≡ bit (k + j) x
bit_down k j x = ap (λ (y : ℕ). y % 2) (shr-shr x k j)

pub bit_up : (k j x : ℕ) → bit (k + j) (x * 2 ^ k) ≡ bit j x
bit_up k j x = sym (bit_down k j (x * 2 ^ k)) ∙ ap (bit j) (shl-shr x k)

pub bit_under : (k j x : ℕ) → j < k → bit j (x * 2 ^ k) ≡ 0
bit_under k j x l =
    let e : k ≡ suc (k - suc j) + j = omega arith in
    ap (λ (m : ℕ). bit j (x * 2 ^ m)) e
    ∙ ap (bit j)
    (ap (λ (y : ℕ). x * y) (pow-add 2 (suc (k - suc j)) j) ∙ sym (mul_assoc x (2 ^ suc (k - suc j)) (2 ^ j)))
    ∙ ap (λ (y : ℕ). y % 2) (shl-shr (x * 2 ^ suc (k - suc j)) j)
    ∙ shifted_even x (k - suc j)

pub bit_cut : (w j x : ℕ) → j < w → bit j (x % 2 ^ w) ≡ bit j x
bit_cut w j x l =
    let e : w ≡ w - suc j + 1 + j = omega arith in
    ap (λ (m : ℕ). bit j (x % 2 ^ m)) e
    ∙ ap (λ (y : ℕ). y % 2) (field x (w - suc j + 1) j)
    ∙ mod-mod-pow (x / 2 ^ j) (w - suc j) 1

-- a bit of two numbers joined is a bit of one of them
pub one_of : (x y : ℕ) → max x y ≡ 1 → (x ≡ 1) ⊎ (y ≡ 1)
one_of zero y h = inr (omega arith)
one_of (suc zero) y h = inl refl
one_of (suc (suc x)) y h = inr (omega arith)

-- two bits that are 1 in the same cases are equal
pub same_bit : (x y : ℕ) → x < 2 → y < 2 → (x ≡ 1) ↔ (y ≡ 1) → x ≡ y
same_bit x y lx ly i = go (ℕ_discrete x 1) (ℕ_discrete y 1)
  where
    go : Dec (x ≡ 1) → Dec (y ≡ 1) → x ≡ y
    go (yes e) d = e ∙ sym (i.0 e)
    go (no f) (yes e) = absurd (f (i.1 e))
    go (no f) (no g) = omega arith

-- ---- the low w bits of x, shifted up by k

pub block_bit : (w k x m : ℕ) → bit m (x % 2 ^ w * 2 ^ k) ≡ 1 → (j : ℕ) × (j < w) × (m ≡ k + j) × (bit j x ≡ 1)
block_bit w k x m h = go (dec_lt m k) (dec_lt (m - k) w)
  where
    at : (k ≤ m) → bit (m - k) (x % 2 ^ w) ≡ 1
    at l =
        let e : k + (m - k) ≡ m = omega arith in
        sym (bit_up k (m - k) (x % 2 ^ w)) ∙ ap (λ (n : ℕ). bit n (x % 2 ^ w * 2 ^ k)) e ∙ h

    go : Dec (m < k) → Dec (m - k < w) → (j : ℕ) × (j < w) × (m ≡ k + j) × (bit j x ≡ 1)
    go (yes l) d = absurd (omega (arith, bit_under k m (x % 2 ^ w) l))
    go (no f) (yes l) = (m - k, l, omega arith, sym (bit_cut w (m - k) x l) ∙ at (omega arith))
    go (no f) (no g) =
        absurd (omega (arith, bit_past w (m - k) (mod-lt x (pow_pos w)) (omega arith), at (omega arith)))

pub block_made : (w k x j : ℕ) → j < w → bit j x ≡ 1 → bit (k + j) (x % 2 ^ w * 2 ^ k) ≡ 1
block_made w k x j l h = bit_up k j (x % 2 ^ w) ∙ bit_cut w j x l ∙ h

-- the same as a machine of v bits has it
pub block_fits : (v w k x : ℕ) → w + k ≤ v → bit_and x (2 ^ w - 1) * 2 ^ k % 2 ^ v ≡ x % 2 ^ w * 2 ^ k
block_fits v w k x l = shl_exact w k v (mask_lt x w) l ∙ ap (λ (y : ℕ). y * 2 ^ k) (and_mask x w)

-- ---- a power of two has one bit

-- as a machine of v bits has it
pub power_fits : (v k : ℕ) → k < v → 1 * 2 ^ k % 2 ^ v ≡ 2 ^ k
power_fits v k l = ap (λ (x : ℕ). x % 2 ^ v) (one-mul (2 ^ k)) ∙ mod-eq_of_lt (pow-lt l)

pub bit_power : (k j : ℕ) → (bit j (2 ^ k) ≡ 1) ↔ (j ≡ k)
bit_power k j = (
  λ h.
      let p = block_bit 1 k 1 j (ap (bit j) (one-mul (2 ^ k)) ∙ h) in
      omega (arith, p.1, p.2),
  λ e.
      rw e
      (ap (bit k) (sym (one-mul (2 ^ k))) ∙ ap (λ (m : ℕ). bit m (1 * 2 ^ k)) (sym (add-zero k))
      ∙ block_made 1 k 1 0 (omega arith) refl),
)

-- ---- two numbers below 2 ^ k with the same bits are equal

pub low_bit : (x : ℕ) → bit 0 x ≡ x % 2
low_bit x = ap (λ (y : ℕ). y % 2) (div-one x)

pub same_bits : (k x y : ℕ) → x < 2 ^ k → y < 2 ^ k → ((j : ℕ) → j < k → bit j x ≡ bit j y) → x ≡ y
same_bits zero x y p q h = omega arith
same_bits (suc k) x y p q h =
    let a : x / 2 < 2 ^ k = shr_lt k 1 (rw add-one p) in
    let b : y / 2 < 2 ^ k = shr_lt k 1 (rw add-one q) in
    let e = same_bits k (x / 2) (y / 2) a b
    (λ j l. bit_down 1 j x ∙ h (1 + j) (omega arith) ∙ sym (bit_down 1 j y)) in
    sym (div-add-mod' x 2)
    ∙ ap₂ (λ (u v : ℕ). u * 2 + v) e (sym (low_bit x) ∙ h 0 (omega arith) ∙ low_bit y)
    ∙ div-add-mod' y 2
