-- Sets of symbols as four numbers of 64 bits: what is in a set with a symbol more, and that the symbols of a set tell its four numbers.
-- Assumes nothing.
use mathlib.Core.Path.{◌≡◌, refl, sym, ap, ◌∙◌}
use mathlib.Core.Bool.{Bool, true, false, true≢false}
use mathlib.Core.List.Memᴰ
use mathlib.Core.List.{List, [], ◌∷◌, Memᴰ}
use mathlib.Core.Logic.{◌⊎◌, inl, inr, ⊎_elim}
use Prim.Native.Nat.{ℕ, zero, suc, ◌+◌, ◌*◌, ◌/◌, ◌%◌, ◌^◌, ◌≤◌, ◌<◌, max}
use native.Mathlib.Decide.{ℕ_discrete, dec_le}
use native.Mathlib.Omega.{arith}
use borrow.Author.Tests.{eqb-true, eq-eqb}
use lib.Bits.{bit_or, or_lt}
use lib.ListN.{length, get_or, set, length-set, get_or-eq_default}
use lib.Pow.{pow-lt}
use lib.Seq.{get_or-set_same, get_or-set_other, set_out, ext_get_or}
use Rattle.std.proofs.Props.{props}
use Rattle.numbers.specs.Number.{bit}
use Rattle.numbers.proofs.Bits.{bit_of_or, bit_power, one_of, bit_zero, bit_lt, same_bit, same_bits}
use Rattle.numbers.proofs.Decides.{Decides, both_decides, eq_decides, says}
use Rattle.numbers.proofs.Members.{at_cons}
use Rattle.parts.specs.Sets.{Symbols, none, has, add, add_all, add_if, same_sets}

abbrev pub In : Symbols → ℕ → Type 0
In A s = has A s ≡ true

-- all of A is in B
abbrev pub Within : Symbols → Symbols → Type 0
Within A B = (s : ℕ) → In A s → In B s

-- a set has four numbers of 64 bits
pub record IsSet (A : Symbols) : Type 0 where
  pub four : length A ≡ 4
  pub small : (k : ℕ) → get_or A k 0 < 2 ^ 64

pub set_prop : (A : Symbols) → IsProp (IsSet A)
set_prop A = hlevel props

-- ---- the bits behind the test

bit_at : Symbols → ℕ → ℕ
bit_at A s = bit (s % 64) (get_or A (s / 64) 0)

in_bit : (A : Symbols) (s : ℕ) → In A s → bit_at A s ≡ 1
unfolding has bit_at
in_bit A s h = eqb-true _ 1 h

bit_in : (A : Symbols) (s : ℕ) → bit_at A s ≡ 1 → In A s
unfolding has bit_at
bit_in A s h = eq-eqb _ 1 h

bit_at_lt : (A : Symbols) (s : ℕ) → bit_at A s < 2
unfolding bit_at
bit_at_lt A s = bit_lt (s % 64) (get_or A (s / 64) 0)

bit_past : (A : Symbols) (s : ℕ) → length A ≡ 4 → 256 ≤ s → bit_at A s ≡ 0
unfolding bit_at
bit_past A s four l = ap (bit (s % 64)) (get_or-eq_default A 0 (omega arith)) ∙ bit_zero (s % 64)

pub not_past : (A : Symbols) (s : ℕ) → length A ≡ 4 → 256 ≤ s → has A s ≡ false
not_past A s four l = go (has A s) refl
  where
    go : (b : Bool) → has A s ≡ b → b ≡ false
    go true e = absurd (omega (arith, bit_past A s four l, in_bit A s e))
    go false e = refl

pub in_low : (A : Symbols) (s : ℕ) → length A ≡ 4 → In A s → s < 256
in_low A s four h = go (dec_le 256 s)
  where
    go : Dec (256 ≤ s) → s < 256
    go (yes l) = absurd (omega (arith, bit_past A s four l, in_bit A s h))
    go (no l) = omega arith

-- ---- no symbol

none_at : (k : ℕ) → get_or none k 0 ≡ 0
none_at zero = refl
none_at (suc zero) = refl
none_at (suc (suc zero)) = refl
none_at (suc (suc (suc zero))) = refl
none_at (suc (suc (suc (suc k)))) = refl

pub none_set : IsSet none
none_set = record { four = refl; small = λ k. omega (arith, none_at k) }

pub in_none : (s : ℕ) → In none s → ⊥
unfolding bit_at
in_none s h = omega (arith, in_bit none s h, ap (bit (s % 64)) (none_at (s / 64)) ∙ bit_zero (s % 64))

-- ---- sets of the same symbols are equal

module _ (A B : Symbols) (i : IsSet A) (j : IsSet B) (u : Within A B) (v : Within B A) where
  same_at : (s : ℕ) → bit_at A s ≡ bit_at B s
  same_at s =
      same_bit (bit_at A s) (bit_at B s) (bit_at_lt A s) (bit_at_lt B s)
      (λ h. in_bit B s (u s (bit_in A s h)), λ h. in_bit A s (v s (bit_in B s h)))

  same_words : (k : ℕ) → get_or A k 0 ≡ get_or B k 0
  unfolding bit_at
  same_words k = same_bits 64 (get_or A k 0) (get_or B k 0) (i.small k) (j.small k) (λ n l. at n l)
    where
      at : (n : ℕ) → n < 64 → bit n (get_or A k 0) ≡ bit n (get_or B k 0)
      at n l =
          let q : (64 * k + n) / 64 ≡ k = omega arith in
          let r : (64 * k + n) % 64 ≡ n = omega arith in
          rw q at (rw r at (same_at (64 * k + n)))

  pub same_sets_lem : A ≡ B
  same_sets_lem = ext_get_or 0 A B (i.four ∙ sym j.four) (λ k l. same_words k)

-- ---- a symbol more

add_at : (A : Symbols) (s t : ℕ) → IsSet A → s < 256 → t / 64 ≡ s / 64
    → bit_at (add A s) t ≡ max (bit_at A t) (bit (t % 64) (2 ^ (s % 64)))
unfolding add bit_at
add_at A s t i l e =
    let x = get_or A (s / 64) 0 in
    rw e
    (ap (bit (t % 64)) (get_or-set_same A (s / 64) (bit_or x (2 ^ (s % 64))) 0 (omega (arith, i.four)))
    ∙ bit_of_or (t % 64) x (2 ^ (s % 64)))

add_else : (A : Symbols) (s t : ℕ) → (t / 64 ≡ s / 64 → ⊥) → bit_at (add A s) t ≡ bit_at A t
unfolding add bit_at
add_else A s t n = ap (bit (t % 64)) (get_or-set_other A (s / 64) (t / 64) _ 0 n)

pub add_past : (A : Symbols) (s : ℕ) → IsSet A → 256 ≤ s → add A s ≡ A
unfolding add
add_past A s i l = set_out A (s / 64) _ (omega (arith, i.four))

-- a number more at a place of the four
set_small : (A : Symbols) (i k x : ℕ) → ((k : ℕ) → get_or A k 0 < 2 ^ 64) → x < 2 ^ 64 → get_or (set A i x) k 0 < 2 ^ 64
set_small A i k x h l = go (ℕ_discrete k i) (dec_le (length A) i)
  where
    go : Dec (k ≡ i) → Dec (length A ≤ i) → get_or (set A i x) k 0 < 2 ^ 64
    go (yes e) (yes o) = rw (set_out A i x o) (h k)
    go (yes e) (no o) = rw e (rw (get_or-set_same A i x 0 (omega arith)) l)
    go (no n) d = rw (get_or-set_other A i k x 0 n) (h k)

pub add_set : (A : Symbols) (s : ℕ) → IsSet A → IsSet (add A s)
unfolding add
add_set A s i =
    let l : s % 64 < 64 = omega arith in
    record {
      four = length-set A (s / 64) _ ∙ i.four;
      small = λ k. set_small A (s / 64) k _ i.small (or_lt 64 _ _ (i.small (s / 64)) (pow-lt l));
    }

pub add_here : (A : Symbols) (s : ℕ) → IsSet A → s < 256 → In (add A s) s
add_here A s i l =
    bit_in (add A s) s (add_at A s s i l refl ∙ omega (arith, (bit_power (s % 64) (s % 64)).1 refl, bit_at_lt A s))

pub add_more : (A : Symbols) (s : ℕ) → IsSet A → Within A (add A s)
add_more A s i t h = go (dec_le 256 s) (ℕ_discrete (t / 64) (s / 64))
  where
    go : Dec (256 ≤ s) → Dec (t / 64 ≡ s / 64) → In (add A s) t
    go (yes l) d = rw (add_past A s i l) h
    go (no l) (yes e) =
        bit_in (add A s) t
        (add_at A s t i (omega arith) e ∙ omega (arith, in_bit A t h, bit_lt (t % 64) (2 ^ (s % 64))))
    go (no l) (no n) = bit_in (add A s) t (add_else A s t n ∙ in_bit A t h)

pub add_only : (A : Symbols) (s t : ℕ) → IsSet A → In (add A s) t → (t ≡ s) ⊎ In A t
add_only A s t i h = go (dec_le 256 s) (ℕ_discrete (t / 64) (s / 64))
  where
    go : Dec (256 ≤ s) → Dec (t / 64 ≡ s / 64) → (t ≡ s) ⊎ In A t
    go (yes l) d = inr (rw (add_past A s i l) at h)
    go (no l) (yes e) =
        ⊎_elim
        (λ b. inr (bit_in A t b))
        (λ b. inl (omega (arith, (bit_power (s % 64) (t % 64)).0 b)))
        (one_of _ _ (sym (add_at A s t i (omega arith) e) ∙ in_bit (add A s) t h))
    go (no l) (no n) = inr (bit_in A t (sym (add_else A s t n) ∙ in_bit (add A s) t h))

-- ---- some symbols more

pub all_set : (A : Symbols) (ss : List ℕ) → IsSet A → IsSet (add_all A ss)
unfolding add_all
all_set A [] i = i
all_set A (s ∷ ss) i = all_set (add A s) ss (add_set A s i)

pub all_more : (A : Symbols) (ss : List ℕ) → IsSet A → Within A (add_all A ss)
unfolding add_all
all_more A [] i t h = h
all_more A (s ∷ ss) i t h = all_more (add A s) ss (add_set A s i) t (add_more A s i t h)

pub all_here : (A : Symbols) (ss : List ℕ) → IsSet A → (t : ℕ) → t < 256 → Memᴰ t ss → In (add_all A ss) t
unfolding add_all
all_here A [] i t l m = absurd (Memᴰ.not-nil m)
all_here A (s ∷ ss) i t l m =
    at_cons (λ u. u < 256 → In (add_all (add A s) ss) u)
    (λ l. all_more (add A s) ss (add_set A s i) s (add_here A s i l))
    (λ k l. all_here (add A s) ss (add_set A s i) t l k) m l

pub all_only : (A : Symbols) (ss : List ℕ) → IsSet A → (t : ℕ) → In (add_all A ss) t → Memᴰ t ss ⊎ In A t
unfolding add_all
all_only A [] i t h = inr h
all_only A (s ∷ ss) i t h =
    ⊎_elim
    (λ m. inl (Memᴰ.tail m))
    (λ k. ⊎_elim (λ e. inl (Memᴰ.head e)) inr (add_only A s t i k))
    (all_only (add A s) ss (add_set A s i) t h)

-- ---- if the test passes

module _ (b : Bool) (A : Symbols) (ss : List ℕ) (i : IsSet A) where
  pub if_set : IsSet (add_if b A ss)
  unfolding add_if
  if_set = go b
    where
      go : (b : Bool) → IsSet (add_if b A ss)
      go true = all_set A ss i
      go false = i

  pub if_more : Within A (add_if b A ss)
  unfolding add_if
  if_more = go b
    where
      go : (b : Bool) → Within A (add_if b A ss)
      go true = all_more A ss i
      go false = λ s h. h

  pub if_here : b ≡ true → (t : ℕ) → t < 256 → Memᴰ t ss → In (add_if b A ss) t
  unfolding add_if
  if_here e t l m = rw e (all_here A ss i t l m)

  pub if_only : (t : ℕ) → In (add_if b A ss) t → ((b ≡ true) × Memᴰ t ss) ⊎ In A t
  unfolding add_if
  if_only t h = go b refl h
    where
      go : (c : Bool) → b ≡ c → In (add_if c A ss) t → ((b ≡ true) × Memᴰ t ss) ⊎ In A t
      go true e h = ⊎_elim (λ m. inl (e, m)) inr (all_only A ss i t h)
      go false e h = inr h

  -- what is there already is added to no purpose
  pub if_same : (b ≡ true → (s : ℕ) → Memᴰ s ss → s < 256 → In A s) → add_if b A ss ≡ A
  if_same h =
      same_sets_lem (add_if b A ss) A if_set i
      (λ t k. ⊎_elim (λ w. h w.0 t w.1 (in_low (add_if b A ss) t if_set.four k)) (λ o. o) (if_only t k))
      if_more

-- ---- the test of two sets
pub same_decides : (A B : Symbols) → Decides (same_sets A B) (A ≡ B)
unfolding same_sets
same_decides [] [] = record { so = λ _. refl; passes = λ _. refl }
same_decides [] (y ∷ ys) = record { so = λ e. absurd (true≢false (sym e)); passes = λ e. absurd (other (ap length e)) }
  where
    other : 0 ≡ suc (length ys) → ⊥
    other e = omega arith
same_decides (x ∷ xs) [] = record { so = λ e. absurd (true≢false (sym e)); passes = λ e. absurd (other (ap length e)) }
  where
    other : suc (length xs) ≡ 0 → ⊥
    other e = omega arith
same_decides (x ∷ xs) (y ∷ ys) =
    says (λ (p, q). (λ i. p i ∷ q i)) (λ e. (cc, cc)) (both_decides (eq_decides x y) (same_decides xs ys))
