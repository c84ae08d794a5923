-- How many digits a number has. Assumes nothing.
use mathlib.Core.Path.{◌≡◌, refl, ap, ◌∙◌}
use Prim.Native.Nat.{ℕ, zero, suc, ◌/◌, ◌^◌, ◌≤◌, ◌<◌}
use native.Mathlib.Nat.{one-le-pow}
use native.Mathlib.Decide.{dec_lt}
use native.Mathlib.Numerals.{sub-one}
use native.Mathlib.Omega.{arith}
use borrow.Author.Tests.{lt-ltb, le-ltb}
use lib.ListN.{length, length-append}
use Rattle.io.specs.Digits.{last_digits, IsDigitCount}
use Rattle.texts.specs.Lines.{places_by, places, decimal}

pub one_place : (fuel n : ℕ) → n < 10 → places_by fuel n ≡ 1
unfolding places_by
one_place zero n h = refl
one_place (suc fuel) n h = rw (lt-ltb _ _ h)

pub more_places : (fuel n : ℕ) → 10 ≤ n → places_by (suc fuel) n ≡ suc (places_by fuel (n / 10))
unfolding places_by
more_places fuel n h = rw (le-ltb _ _ h)

at_least : (n k : ℕ) → IsDigitCount 10 1 n (suc (suc k)) → 10 ^ suc k ≤ n
at_least n k f = rw sub-one at (f.2 (omega arith))

-- the count of `io::decimal`'s contract
fewest_by : (fuel n k : ℕ) → n ≤ fuel → IsDigitCount 10 1 n (suc k) → places_by fuel n ≡ suc k
fewest_by fuel n zero h f = one_place fuel n f.1
fewest_by zero n (suc k) h f =
    let one = one-le-pow k 10 (omega arith) in
    let least = at_least n k f in
    absurd (omega arith)
fewest_by (suc fuel) n (suc k) h f =
    let one = one-le-pow k 10 (omega arith) in
    let least = at_least n k f in
    let below = f.1 in
    let tenth : IsDigitCount 10 1 (n / 10) (suc k) = (omega arith, omega arith, λ more. rw sub-one (omega arith)) in
    more_places fuel n (omega arith) ∙ ap suc (fewest_by fuel (n / 10) k (omega arith) tenth)

pub fewest : (n k : ℕ) → IsDigitCount 10 1 n k → places n ≡ k
unfolding places
fewest n zero f = let least = f.0 in absurd (omega arith)
fewest n (suc k) f = fewest_by n n k (omega arith) f

abbrev AtMost : ℕ → Type 0
AtMost fuel = (n k : ℕ) → n < 10 ^ suc k → places_by fuel n ≤ suc k

at_most_more : (fuel : ℕ) → AtMost fuel → (n k : ℕ) → Dec (n < 10) → n < 10 ^ suc k → places_by (suc fuel) n ≤ suc k
at_most_more fuel ih n k (yes few) h = rw (one_place (suc fuel) n few) (omega arith)
at_most_more fuel ih n zero (no many) h = absurd (omega arith)
at_most_more fuel ih n (suc k) (no many) h =
    let tenth = ih (n / 10) k (omega arith) in
    rw (more_places fuel n (omega arith)) (omega arith)

at_most_by : (fuel : ℕ) → AtMost fuel
unfolding places_by
at_most_by zero n k h = omega arith
at_most_by (suc fuel) n k h = at_most_more fuel (at_most_by fuel) n k (dec_lt n 10) h

pub at_most : (n k : ℕ) → n < 10 ^ suc k → places n ≤ suc k
unfolding places
at_most n k h = at_most_by n n k h

length_digits : (b k n : ℕ) → length (last_digits b k n) ≡ k
length_digits b zero n = refl
length_digits b (suc k) n = rw (length-append, length_digits b k (n / b)) (omega arith)

pub length_decimal : (n : ℕ) → length (decimal n) ≡ places n
unfolding decimal
length_decimal n = length_digits 10 (places n) n
