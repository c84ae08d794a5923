-- The first record that breaks a rule decides, whatever the records and their rules are. Assumes nothing.
use mathlib.Core.Path.{◌≡◌, refl, sym, ap, subst, ◌∙◌}
use Prim.Native.Nat.{ℕ, zero, suc, ◌+◌, ◌-◌, ◌≤◌, ◌<◌}
use native.Mathlib.Nat.{sub-zero}
use native.Mathlib.Numerals.{add-one}
use native.Mathlib.Decide.{dec_lt}
use native.Mathlib.Omega.{arith}
use Rattle.std.specs.Prelude.{Result, Ok, Err}
use Rattle.grammar.specs.declared.Rule.{Rule}
use Rattle.grammar.specs.declared.Broken.TheVariants.{Record}
use Rattle.grammar.specs.Rules.{AllGood}
use Rattle.grammar.specs.Refusal.{Checked, number, and_check, handed_up, first_bad}

module _ {A : Type 0} (i : ℕ) (rest : Checked) where
  pub at_none : (r : Result A Rule) (x : A) → r ≡ Ok x → and_check (handed_up i r) rest ≡ rest
  unfolding and_check
  at_none r x e = rw e

  pub at_some : (r : Result A Rule) (k : Rule) → r ≡ Err k → and_check (handed_up i r) rest ≡ Err (Record (number k) i)
  unfolding and_check
  at_some r k e = rw e

-- what a rule says of the record i: what was read, or the rule that is broken
pub data RuleSaid {A : Type 0} (Good : ℕ → Type 0) (Bad : ℕ → Rule → Type 0) (i : ℕ) : Result A Rule → Type 0 where
  fine : (x : A) → Good i → RuleSaid Good Bad i (Ok x)
  broken : {k : Rule} → Bad i k → RuleSaid Good Bad i (Err k)

-- what is said of n records
pub data FirstTold (Good : ℕ → Type 0) (Bad : ℕ → Rule → Type 0) (n : ℕ) : Checked → Type 0 where
  all_good : AllGood Good n → FirstTold Good Bad n (Ok tt)
  one_bad : (i : ℕ) (k : Rule) → i < n → AllGood Good i → Bad i k → FirstTold Good Bad n (Err (Record (number k) i))

pub good_more : (Good : ℕ → Type 0) (i : ℕ) → AllGood Good i → Good i → AllGood Good (suc i)
good_more Good i all here = λ j l. go j l (eq_or_lt j l)
  where
    eq_or_lt : (j : ℕ) → j < suc i → Dec (j < i)
    eq_or_lt j l = dec_lt j i

    go : (j : ℕ) → j < suc i → Dec (j < i) → Good j
    go j l (yes h) = all j h
    go j l (no n) = let e : i ≡ j = omega arith in subst Good e here

-- the rule of a record decides whether it is good, and what it breaks
module _ {A : Type 0} (read : ℕ → Result A Rule) (value : ℕ → A) (Good : ℕ → Type 0) (good_so : (i : ℕ) → Good i → read i ≡ Ok (value i)) where
  one : (i n : ℕ) → first_bad read i (suc n) ≡ and_check (handed_up i (read i)) (first_bad read (suc i) n)
  unfolding first_bad
  one i n = refl

  skipped : (m i n : ℕ) → ((j : ℕ) → i ≤ j → j < i + m → Good j) → first_bad read i (m + n) ≡ first_bad read (i + m) n
  skipped zero i n all =
      let a : zero + n ≡ n = omega arith in
      let b : i + zero ≡ i = omega arith in
      rw (a, b)
  skipped (suc m) i n all =
      let a : suc m + n ≡ suc (m + n) = omega arith in
      let b : i + suc m ≡ suc i + m = omega arith in
      ap (first_bad read i) a
      ∙ one i (m + n)
      ∙ at_none i _ (read i) (value i) (good_so i (all i (omega arith) (omega arith)))
      ∙ skipped m (suc i) n (λ j l h. all j (omega arith) (omega arith))
      ∙ ap (λ (k : ℕ). first_bad read k n) (sym b)

  pub first_none : (n : ℕ) → AllGood Good n → first_bad read 0 n ≡ Ok tt
  unfolding first_bad
  first_none n all =
      let a : n ≡ n + 0 = omega arith in ap (first_bad read 0) a ∙ skipped n 0 0 (λ j l h. all j (omega arith))

  pub first_is : (n i : ℕ) (k : Rule) → i < n → AllGood Good i → read i ≡ Err k → first_bad read 0 n ≡ Err (Record (number k) i)
  first_is n i k l all bad =
      let a : n ≡ i + suc (n - i - 1) = omega arith in
      let b : 0 + i ≡ i = omega arith in
      ap (first_bad read 0) a
      ∙ skipped i 0 (suc (n - i - 1)) (λ j u h. all j (omega arith))
      ∙ ap (λ (j : ℕ). first_bad read j (suc (n - i - 1))) b
      ∙ one i (n - i - 1)
      ∙ at_some i _ (read i) k bad

module _ {A : Type 0} (read : ℕ → Result A Rule) (Good : ℕ → Type 0) (Bad : ℕ → Rule → Type 0) (says : (i : ℕ) → RuleSaid Good Bad i (read i)) (n : ℕ) where
  from : (m i : ℕ) → i + m ≡ n → AllGood Good i → FirstTold Good Bad n (first_bad read i m)
  unfolding first_bad
  from zero i e all = let h : i ≡ n = omega arith in all_good (subst (AllGood Good) h all)
  from (suc m) i e all = go (read i) (says i) (from m (suc i) (omega arith))
    where
      go : (r : Result A Rule) → RuleSaid Good Bad i r → (AllGood Good (suc i) → FirstTold Good Bad n (first_bad read (suc i) m))
          → FirstTold Good Bad n (and_check (handed_up i r) (first_bad read (suc i) m))
      go r (fine x h) rest = subst (FirstTold Good Bad n) (sym (at_none i _ (Ok x) x refl)) (rest (good_more Good i all h))
      go r (broken {k} bad) rest = subst (FirstTold Good Bad n) (sym (at_some {A = A} i _ (Err k) k refl)) (one_bad i k (omega arith) all bad)

  pub first_told : FirstTold Good Bad n (first_bad read 0 n)
  first_told = from n 0 (omega arith) (λ j l. absurd (omega arith))

-- ---- what is left from the record i on, of n
module _ {A : Type 0} (read : ℕ → Result A Rule) (n i : ℕ) where
  abbrev pub left : Checked
  left = first_bad read i (n - i)

  module _ (l : i < n) where
    one_more : first_bad read i (n - i) ≡ and_check (handed_up i (read i)) (first_bad read (i + 1) (n - (i + 1)))
    unfolding first_bad
    one_more =
        let e : n - i ≡ suc (n - (i + 1)) = omega arith in
        ap (first_bad read i) e ∙ ap (λ (j : ℕ). and_check (handed_up i (read i)) (first_bad read j (n - (i + 1)))) (sym (add-one i))

    -- r is read at i: the loop goes on, or returns x
    module _ {r : Result A Rule} {whole : Checked} (here : r ≡ read i) (rest : first_bad read i (n - i) ≡ whole) where
      pub first_goes : (x : A) → r ≡ Ok x → first_bad read (i + 1) (n - (i + 1)) ≡ whole
      first_goes x e = sym (one_more ∙ at_none i _ (read i) x (sym here ∙ e)) ∙ rest

      pub first_stops : {x : Checked} → (k : Rule) × (r ≡ Err k) × (x ≡ Err (Record (number k) i)) → x ≡ whole
      first_stops e = e.2 ∙ sym (one_more ∙ at_some i _ (read i) e.0 (sym here ∙ e.1)) ∙ rest

  pub first_ends : n ≤ i → Ok tt ≡ first_bad read i (n - i)
  unfolding first_bad
  first_ends l =
      let e : n - i ≡ 0 = omega arith in
      ap (first_bad read i) (sym e)

pub first_begins : {A : Type 0} (read : ℕ → Result A Rule) (n : ℕ) → first_bad read 0 (n - 0) ≡ first_bad read 0 n
first_begins read n = ap (first_bad read 0) (sub-zero n)
