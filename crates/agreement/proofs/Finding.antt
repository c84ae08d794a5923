-- Where an entry is first found in a row, if no earlier one has its symbol and graph. Assumes nothing.
use mathlib.Core.Path.{◌≡◌, refl, ap, ◌∙◌}
use mathlib.Core.Bool.{Bool, true, false}
use mathlib.Core.List.{List}
use Prim.Native.Nat.{ℕ, ◌<◌}
use native.Mathlib.Omega.{arith}
use lib.ListN.{length, get_or, take}
use lib.Seq.{length-take-le, get_or-take, take_all}
use borrow.Author.Rules.{rules}
use borrow.Author.Tests.{lt-ltb, le-ltb}
use Rattle.std.specs.Prelude.{Some, None, Ok, Err, position}
use Rattle.std.proofs.lemmas.List.Sums.{position_or_len_is}
use Rattle.numbers.proofs.Decides.{Decides, not_so}
use Rattle.grammar.specs.Table.{width_of, grammar_of}
use Rattle.grammar.specs.Refusal.{Checked, refusal}
use Rattle.rules.specs.declared.Entry.{Entry}
use Rattle.rules.specs.Passes.{no_entry, entry, passes}
use Rattle.parts.specs.Rule.{taking}
use Rattle.rules.specs.Test.{system_in, saying, after_check, test}
use Rattle.orders.specs.Stored.{Different}
use Rattle.orders.proofs.Answers.{outcome_sound}
use Rattle.lookups.specs.Lookup.{of}
use Rattle.agreement.specs.Agreement.{place_of}

-- no two entries that the test stores have the same symbol and graph
pub different_test : (bs : List ℕ) (limit room : ℕ) → Different (test bs limit room).entries
unfolding test after_check
different_test bs limit room = go (refusal bs)
  where
    go : (c : Checked)
        → Different (after_check c (saying (width_of bs) (grammar_of bs) (passes (system_in bs) limit room (taking (grammar_of bs))))).entries
    go (Ok u) = (outcome_sound (system_in bs) (taking (grammar_of bs)) limit room).different
    go (Err b) = λ i j l m s g. absurd (omega arith)

of_decides : (s g : ℕ) (e : Entry) → Decides (of s g e) ((e.symbol ≡ s) × (e.graph ≡ g))
of_decides s g e = record { so = λ h. search rules; passes = λ p. search rules }

-- ---- where the first element is that passes a test
module _ {A : Type 0} (p : A → Bool) (xs : List A) where
  pub found_at : (i : ℕ) (d : A) → i < length xs → ((j : ℕ) → j < i → p (get_or xs j d) ≡ false) → p (get_or xs i d) ≡ true → position p xs ≡ Some i
  found_at i d l none hit = let e = position_or_len_is p xs i d (omega (arith, l)) none (λ m. hit) in rw (e, lt-ltb i (length xs) l)

  pub found_nowhere : (d : A) → ((j : ℕ) → j < length xs → p (get_or xs j d) ≡ false) → position p xs ≡ None
  found_nowhere d none =
      let e = position_or_len_is p xs (length xs) d (omega arith) none (λ m. absurd (omega arith)) in
      rw (e, le-ltb (length xs) (length xs) (omega arith))

-- no entry of the row before i has the symbol and the graph of e
abbrev pub NewAt : Entry → List Entry → ℕ → Type 0
NewAt e es i = (j : ℕ) → j < i → (entry es j).symbol ≡ e.symbol → (entry es j).graph ≡ e.graph → ⊥

module _ (es : List Entry) (i : ℕ) (within : i < length es) (new : NewAt (entry es i) es i) where
  abbrev e : Entry
  e = entry es i

  other : (j : ℕ) → j < i → of e.symbol e.graph (entry es j) ≡ false
  other j l = not_so (of_decides e.symbol e.graph (entry es j)) (λ p. new j l p.0 p.1)

  -- it is found at its own place
  pub found_here : place_of e (take (length es) es) ≡ Some i
  found_here =
      ap (place_of e) (take_all (length es) es (omega arith))
      ∙ found_at (of e.symbol e.graph) es i no_entry within other ((of_decides e.symbol e.graph e).passes (refl, refl))

  -- and not among those before it
  pub not_before : place_of e (take i es) ≡ None
  not_before =
      let long : length (take i es) ≡ i = length-take-le i es (omega (arith, within)) in
      found_nowhere (of e.symbol e.graph) (take i es) no_entry
      (λ j l. let m : j < i = omega (arith, l, long) in ap (of e.symbol e.graph) (get_or-take i es j no_entry m) ∙ other j m)
