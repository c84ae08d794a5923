-- A number is read off a text in one way: its digits go as far as there are digits. Assumes nothing.
use mathlib.Core.Path.{◌≡◌, refl, sym, ap, ◌∙◌, subst}
use mathlib.Core.Bool.{Bool, true, false, cond, true≢false}
use mathlib.Core.List.{List, [], ◌∷◌, ◌++◌, append_assoc, append_cancel_left}
use Prim.Native.String.{String}
use Prim.Native.Nat.{ℕ, zero, suc, ◌+◌, ◌-◌, ◌*◌, ◌/◌, ◌%◌, ◌^◌, ◌≤◌, ◌<◌}
use native.Mathlib.Decide.{dec_lt}
use native.Mathlib.Omega.{arith}
use borrow.Author.Tests.{lt-ltb, le-leb}
use lib.Dec.{leb, ltb}
use lib.ListN.{length}
use Rattle.io.specs.Digits.{hex_digit_ascii, last_digits}
use Rattle.texts.specs.Lines.{ascii, one_or, places_by, places, decimal, tagged}
use Rattle.texts.proofs.Decimal.{one_place, more_places, length_decimal}

-- ---- digits

-- the byte of a decimal digit
abbrev pub is_digit : ℕ → Bool
is_digit c = cond (leb 48 c) (leb c 57) false

abbrev AllDigits : List ℕ → Type 0
AllDigits [] = Unit {0}
AllDigits (c ∷ cs) = (is_digit c ≡ true) × AllDigits cs

-- a text before which a number ends
abbrev pub EndsNumber : List ℕ → Type 0
EndsNumber [] = Unit {0}
EndsNumber (c ∷ cs) = is_digit c ≡ false

all_snoc : (cs : List ℕ) (c : ℕ) → AllDigits cs → is_digit c ≡ true → AllDigits (cs ++ (c ∷ []))
all_snoc [] c h k = (k, tt)
all_snoc (x ∷ cs) c h k = (h.0, all_snoc cs c h.1 k)

glyph_is : (d : ℕ) → d < 10 → hex_digit_ascii d ≡ 48 + d
glyph_is d h = rw (lt-ltb _ _ h)

glyph_digit : (d : ℕ) → d < 10 → is_digit (hex_digit_ascii d) ≡ true
glyph_digit d h = rw (glyph_is d h, le-leb 48 (48 + d) (omega arith), le-leb (48 + d) 57 (omega arith))

digits_all : (k n : ℕ) → AllDigits (last_digits 10 k n)
digits_all zero n = tt
digits_all (suc k) n = all_snoc (last_digits 10 k (n / 10)) _ (digits_all k (n / 10)) (glyph_digit (n % 10) (omega arith))

-- ---- the number of digits

valued : ℕ → List ℕ → ℕ
valued v [] = v
valued v (c ∷ cs) = valued (10 * v + (c - 48)) cs

valued_snoc : (v : ℕ) (cs : List ℕ) (c : ℕ) → valued v (cs ++ (c ∷ [])) ≡ 10 * valued v cs + (c - 48)
unfolding valued
valued_snoc v [] c = refl
valued_snoc v (x ∷ cs) c = valued_snoc (10 * v + (x - 48)) cs c

digits_valued : (k n : ℕ) → n < 10 ^ k → valued 0 (last_digits 10 k n) ≡ n
unfolding valued
digits_valued zero n h = omega arith
digits_valued (suc k) n h =
    rw (valued_snoc 0 (last_digits 10 k (n / 10)), digits_valued k (n / 10) (omega arith), glyph_is (n % 10) (omega arith)) (omega arith)

enough_places : (fuel n : ℕ) → n ≤ fuel → n < 10 ^ places_by fuel n
unfolding places_by
enough_places zero n h = omega arith
enough_places (suc fuel) n h = go (dec_lt n 10) (enough_places fuel (n / 10))
  where
    go : Dec (n < 10) → (n / 10 ≤ fuel → n / 10 < 10 ^ places_by fuel (n / 10)) → n < 10 ^ places_by (suc fuel) n
    go (yes few) more = rw (one_place (suc fuel) n few) (omega arith)
    go (no many) more = let tenth = more (omega arith) in rw (more_places fuel n (omega arith)) (omega arith)

decimal_valued : (n : ℕ) → valued 0 (decimal n) ≡ n
unfolding decimal places
decimal_valued n = digits_valued (places n) n (enough_places n n (omega arith))

decimal_all : (n : ℕ) → AllDigits (decimal n)
unfolding decimal
decimal_all n = digits_all (places n) n

-- ---- a number and what follows it

apart : (b : Bool) → b ≡ true → b ≡ false → ⊥
apart b t f = let z : true ≡ false = sym t ∙ f in true≢false z

split : (a b r s : List ℕ) → AllDigits a → AllDigits b → EndsNumber r → EndsNumber s → a ++ r ≡ b ++ s → (a ≡ b) × (r ≡ s)
split [] [] r s da db er es h = (refl, h)
split [] (y ∷ b) r s da db er es h =
    let none = subst EndsNumber h er in
    absurd (apart (is_digit y) db.0 none)
split (x ∷ a) [] r s da db er es h =
    let none = subst EndsNumber (sym h) es in
    absurd (apart (is_digit x) da.0 none)
split (x ∷ a) (y ∷ b) r s da db er es h =
    let first : x ≡ y = cc in
    let later : a ++ r ≡ b ++ s = cc in
    let rest = split a b r s da.1 db.1 er es later in
    (λ i. first i ∷ rest.0 i, rest.1)

pub number_told : (m n : ℕ) (r s : List ℕ) → EndsNumber r → EndsNumber s → decimal m ++ r ≡ decimal n ++ s → (m ≡ n) × (r ≡ s)
number_told m n r s er es h =
    let parts = split (decimal m) (decimal n) r s (decimal_all m) (decimal_all n) er es h in
    (sym (decimal_valued m) ∙ ap (valued 0) parts.0 ∙ decimal_valued n, parts.1)

-- behind the same word
pub tagged_told : (tag : String) (m n : ℕ) (r s : List ℕ) → EndsNumber r → EndsNumber s → tagged tag m ++ r ≡ tagged tag n ++ s → (m ≡ n) × (r ≡ s)
tagged_told tag m n r s er es h =
    let behind = sym (append_assoc (ascii tag) (decimal m) r) ∙ h ∙ append_assoc (ascii tag) (decimal n) s in
    number_told m n r s er es (append_cancel_left (ascii tag) (decimal m ++ r) (decimal n ++ s) behind)

-- a number begins with a digit
some_place : (fuel n : ℕ) → 1 ≤ places_by fuel n
unfolding places_by
some_place zero n = omega arith
some_place (suc fuel) n = go (ltb n 10)
  where
    go : (b : Bool) → 1 ≤ one_or b (places_by fuel) n
    go true = omega arith
    go false = omega arith

begins : (a : List ℕ) (c : ℕ) (r s : List ℕ) → AllDigits a → 1 ≤ length a → is_digit c ≡ false → ¬ (a ++ r ≡ c ∷ s)
begins [] c r s d l none h = omega arith
begins (x ∷ a) c r s d l none h =
    let first : x ≡ c = cc in
    apart (is_digit x) d.0 (ap is_digit first ∙ none)

pub digit_first : (n c : ℕ) (r s : List ℕ) → is_digit c ≡ false → ¬ (decimal n ++ r ≡ c ∷ s)
unfolding places
digit_first n c r s none =
    begins (decimal n) c r s (decimal_all n) (let l = length_decimal n in let k = some_place n n in omega arith) none
