-- A table is refused exactly for the first rule that it breaks, with the first bad record. Assumes nothing.
use mathlib.Core.Path.{◌≡◌, refl, sym, ap, subst, ◌∙◌}
use mathlib.Core.Bool.{Bool, true, false}
use mathlib.Core.List.{List}
use Prim.Native.Nat.{ℕ, zero, suc, ◌-◌, ◌≤◌, ◌<◌}
use native.Mathlib.Decide.{dec_le}
use native.Mathlib.Omega.{arith}
use lib.Dec.{ltb}
use lib.ListN.{length}
use Rattle.numbers.proofs.Decides.{Decides, Outcome, holds, fails, outcome, not_so, below_decides}
use Rattle.std.specs.Prelude.{Result, Ok, Err}
use Rattle.grammar.specs.declared.Edge.{Edge}
use Rattle.grammar.specs.declared.Rule.{Rule}
use Rattle.grammar.specs.declared.Rule.TheVariants.{SymbolBad, ProductionBad, NotAbove, NoSuchProduction, NoOccurrence, NoAttribute, NotAllowed}
use Rattle.grammar.specs.declared.Broken.{Broken}
use Rattle.grammar.specs.declared.Broken.TheVariants.{Record}
use Rattle.grammar.specs.Grammar.{Grammar, symbol, production}
use Rattle.grammar.specs.Table.{N, P, E, width_of, grammar_of}
use Rattle.grammar.specs.Rules.{CountsInRange, OffsetsRight, ProductionThere, OccurrencesThere, AttributesThere, TargetAllowed, AboveBefore, AllGood, FirstBad, SymbolGood, ProductionGood, EdgeGood, EdgeBreaks, no_such_production, no_occurrence, no_attribute, not_allowed, not_above, BeforeRecords, BeforeEdges, Breaks, header_short, counts, offsets, symbol_bad, production_bad, edge_bad, key, edge}
use Rattle.grammar.specs.Refusal.{Checked, number, counts_ok, offsets_ok, symbol_ok, production_ok, occurrences_ok, attributes_ok, target_ok, in_order, or_rule, edge_read, edge_rule, first_bad, and_check, refusal}
use Rattle.grammar.specs.Steps.{symbols_check, productions_check, edges_check}
use Rattle.grammar.specs.Valid.{RefusalExactly}
use Rattle.grammar.proofs.First.{RuleSaid, fine, broken, FirstTold, all_good, one_bad, first_none, first_is, first_told}
use Rattle.grammar.proofs.Sequence.{refusal_one, refusal_two, refusal_three, refusal_records, and_good}
use Rattle.grammar.proofs.Decided.{counts_decide, offsets_decide, symbol_decides, production_decides, there_decides, occurrences_decide, attributes_decide, allowed_decides, good_edge, occurrences, attributes_there}

-- ---- a rule by its test
module _ {A : Type 0} (b : Bool) (k : Rule) (rest : Result A Rule) where
  pub rule_passed : b ≡ true → or_rule b k rest ≡ rest
  unfolding or_rule
  rule_passed e = rw e

  pub rule_broken : b ≡ false → or_rule b k rest ≡ Err k
  unfolding or_rule
  rule_broken e = rw e

-- the record i is bad by its only rule, n
abbrev pub BadBy : (ℕ → Type 0) → Rule → ℕ → Rule → Type 0
BadBy Good n i k = (¬ Good i) × (k ≡ n)

-- records with one rule, n, of which there are `count`
module _ {A : Type 0} (test : ℕ → Bool) (value : ℕ → A) (Good : ℕ → Type 0) (decides : (i : ℕ) → Decides (test i) (Good i)) (n : Rule) (count : ℕ) where
  abbrev rule : ℕ → Result A Rule
  rule i = or_rule (test i) n (Ok (value i))

  rule_good : (i : ℕ) → Good i → or_rule (test i) n (Ok (value i)) ≡ Ok (value i)
  rule_good i h = rule_passed (test i) n (Ok (value i)) ((decides i).passes h)

  rule_bad : (i : ℕ) → ¬ Good i → or_rule (test i) n (Ok (value i)) ≡ Err n
  rule_bad i h = rule_broken (test i) n (Ok (value i)) (not_so (decides i) h)

  rule_said : (i : ℕ) → RuleSaid Good (BadBy Good n) i (or_rule (test i) n (Ok (value i)))
  rule_said i = go (outcome (decides i))
    where
      go : Outcome (test i) (Good i) → RuleSaid Good (BadBy Good n) i (or_rule (test i) n (Ok (value i)))
      go (holds t h) = subst (RuleSaid Good (BadBy Good n) i) (sym (rule_passed (test i) n (Ok (value i)) t)) (fine (value i) h)
      go (fails t h) = subst (RuleSaid Good (BadBy Good n) i) (sym (rule_broken (test i) n (Ok (value i)) t)) (broken (h, refl))

  pub single_none : AllGood Good count → first_bad (λ i. or_rule (test i) n (Ok (value i))) 0 count ≡ Ok tt
  single_none = first_none rule value Good rule_good count

  pub single_is : (i : ℕ) → FirstBad Good count i → first_bad (λ i. or_rule (test i) n (Ok (value i))) 0 count ≡ Err (Record (number n) i)
  single_is i f = first_is rule value Good rule_good count i n f.there f.before (rule_bad i f.bad)

  pub single_told : FirstTold Good (BadBy Good n) count (first_bad (λ i. or_rule (test i) n (Ok (value i))) 0 count)
  single_told = first_told rule Good (BadBy Good n) rule_said count

-- ---- an edge
-- the edge i breaks the rule k
abbrev pub EdgeBad : Grammar → ℕ → Rule → Type 0
EdgeBad g i k = EdgeBreaks g i (number k)

module _ (g : Grammar) where
  pub order_decides : (i : ℕ) → Decides (in_order i (edge g (i - 1)) (edge g i)) (AboveBefore g i)
  unfolding in_order
  order_decides zero = record { so = λ e. tt; passes = λ a. refl }
  order_decides (suc i) =
      let e : suc i - 1 ≡ i = omega arith in
      rw e (below_decides (key (edge g i)) (key (edge g (suc i))))

  module _ (i : ℕ) where
    abbrev there : Bool
    there = ltb (edge g i).production (length g.productions)

    -- the rule by its five tests
    by_tests : Bool → Bool → Bool → Bool → Bool → Result Edge Rule
    by_tests a b c d e =
        or_rule a NoSuchProduction (or_rule b NoOccurrence (or_rule c NoAttribute (or_rule d NotAllowed (or_rule e NotAbove (Ok (edge g i))))))

    rule_is : edge_rule g i
        ≡ by_tests there (occurrences_ok g (edge g i)) (attributes_ok g (edge g i)) (target_ok g (edge g i))
        (in_order i (edge g (i - 1)) (edge g i))
    unfolding edge_read by_tests
    rule_is = refl

    ten : (a b c d e : Bool) → a ≡ false → by_tests a b c d e ≡ Err NoSuchProduction
    unfolding by_tests or_rule
    ten a b c d e p = rw p

    eleven : (a b c d e : Bool) → a ≡ true → b ≡ false → by_tests a b c d e ≡ Err NoOccurrence
    unfolding by_tests or_rule
    eleven a b c d e p q = rw (p, q)

    twelve : (a b c d e : Bool) → a ≡ true → b ≡ true → c ≡ false → by_tests a b c d e ≡ Err NoAttribute
    unfolding by_tests or_rule
    twelve a b c d e p q r = rw (p, q, r)

    thirteen : (a b c d e : Bool) → a ≡ true → b ≡ true → c ≡ true → d ≡ false → by_tests a b c d e ≡ Err NotAllowed
    unfolding by_tests or_rule
    thirteen a b c d e p q r s = rw (p, q, r, s)

    seven : (a b c d e : Bool) → a ≡ true → b ≡ true → c ≡ true → d ≡ true → e ≡ false → by_tests a b c d e ≡ Err NotAbove
    unfolding by_tests or_rule
    seven a b c d e p q r s t = rw (p, q, r, s, t)

    none : (a b c d e : Bool) → a ≡ true → b ≡ true → c ≡ true → d ≡ true → e ≡ true → by_tests a b c d e ≡ Ok (edge g i)
    unfolding by_tests or_rule
    none a b c d e p q r s t = rw (p, q, r, s, t)

    pub edge_good : EdgeGood g i → edge_rule g i ≡ Ok (edge g i)
    edge_good h =
        rule_is
        ∙ none _ _ _ _ _ ((there_decides g (edge g i)).passes h.0.production_there)
        ((occurrences_decide g (edge g i)).passes (occurrences g (edge g i) h.0))
        ((attributes_decide g (edge g i)).passes (attributes_there g (edge g i) h.0))
        ((allowed_decides g (edge g i)).passes h.0.allowed)
        ((order_decides i).passes h.1)

    -- the rule of a number that an edge breaks
    pub edge_broken : (k : ℕ) → EdgeBreaks g i k → (r : Rule) × (number r ≡ k) × (edge_rule g i ≡ Err r)
    edge_broken k (no_such_production n) = (NoSuchProduction, refl, rule_is ∙ ten _ _ _ _ _ (not_so (there_decides g (edge g i)) n))
    edge_broken k (no_occurrence p n) =
        (NoOccurrence, refl, rule_is ∙ eleven _ _ _ _ _ ((there_decides g (edge g i)).passes p) (not_so (occurrences_decide g (edge g i)) n))
    edge_broken k (no_attribute p o n) = (
      NoAttribute,
      refl,
      rule_is
          ∙ twelve _ _ _ _ _ ((there_decides g (edge g i)).passes p) ((occurrences_decide g (edge g i)).passes o)
          (not_so (attributes_decide g (edge g i)) n),
    )
    edge_broken k (not_allowed p o a n) = (
      NotAllowed,
      refl,
      rule_is
          ∙ thirteen _ _ _ _ _ ((there_decides g (edge g i)).passes p) ((occurrences_decide g (edge g i)).passes o)
          ((attributes_decide g (edge g i)).passes a) (not_so (allowed_decides g (edge g i)) n),
    )
    edge_broken k (not_above h n) = (
      NotAbove,
      refl,
      rule_is
          ∙ seven _ _ _ _ _ ((there_decides g (edge g i)).passes h.production_there)
          ((occurrences_decide g (edge g i)).passes (occurrences g (edge g i) h))
          ((attributes_decide g (edge g i)).passes (attributes_there g (edge g i) h))
          ((allowed_decides g (edge g i)).passes h.allowed) (not_so (order_decides i) n),
    )

    abbrev Said : Result Edge Rule → Type 0
    Said = RuleSaid (EdgeGood g) (EdgeBad g) i

    told_by : {r : Result Edge Rule} → by_tests there (occurrences_ok g (edge g i)) (attributes_ok g (edge g i)) (target_ok g (edge g i))
        (in_order i (edge g (i - 1)) (edge g i)) ≡ r → Said r → Said (edge_rule g i)
    told_by e = subst Said (sym (rule_is ∙ e))

    pub edge_said : RuleSaid (EdgeGood g) (EdgeBad g) i (edge_rule g i)
    edge_said =
        go (outcome (there_decides g (edge g i))) (outcome (occurrences_decide g (edge g i))) (outcome (attributes_decide g (edge g i)))
        (outcome (allowed_decides g (edge g i))) (outcome (order_decides i))
      where
        go : Outcome (ltb (edge g i).production (length g.productions)) (ProductionThere g (edge g i))
            → Outcome (occurrences_ok g (edge g i)) (OccurrencesThere g (edge g i))
            → Outcome (attributes_ok g (edge g i)) (AttributesThere g (edge g i))
            → Outcome (target_ok g (edge g i)) (TargetAllowed g (edge g i))
            → Outcome (in_order i (edge g (i - 1)) (edge g i)) (AboveBefore g i)
            → RuleSaid (EdgeGood g) (EdgeBad g) i (edge_rule g i)
        go (fails p n) b c d e = told_by (ten _ _ _ _ _ p) (broken (no_such_production n))
        go (holds p u) (fails q n) c d e = told_by (eleven _ _ _ _ _ p q) (broken (no_occurrence u n))
        go (holds p u) (holds q v) (fails r n) d e = told_by (twelve _ _ _ _ _ p q r) (broken (no_attribute u v n))
        go (holds p u) (holds q v) (holds r w) (fails s n) e = told_by (thirteen _ _ _ _ _ p q r s) (broken (not_allowed u v w n))
        go (holds p u) (holds q v) (holds r w) (holds s x) (fails t n) =
            told_by (seven _ _ _ _ _ p q r s t) (broken (not_above (good_edge g (edge g i) u v w x) n))
        go (holds p u) (holds q v) (holds r w) (holds s x) (holds t y) =
            told_by (none _ _ _ _ _ p q r s t) (fine (edge g i) (good_edge g (edge g i) u v w x, y))

-- ---- the three tables
module _ (bs : List ℕ) where
  abbrev g : Grammar
  g = grammar_of bs

  symbol_test : (i : ℕ) → Decides (symbol_ok (width_of bs) (symbol (grammar_of bs) i)) (SymbolGood bs i)
  symbol_test i = symbol_decides (width_of bs) (symbol g i)

  production_test : (i : ℕ) → Decides (production_ok (N bs) (production (grammar_of bs) i)) (ProductionGood bs i)
  production_test i = production_decides (N bs) (production g i)

  symbols_none : AllGood (SymbolGood bs) (N bs) → symbols_check bs ≡ Ok tt
  symbols_none = single_none _ (symbol g) (SymbolGood bs) symbol_test SymbolBad (N bs)

  symbols_is : (i : ℕ) → FirstBad (SymbolGood bs) (N bs) i → symbols_check bs ≡ Err (Record 4 i)
  symbols_is = single_is _ (symbol g) (SymbolGood bs) symbol_test SymbolBad (N bs)

  symbols_told : FirstTold (SymbolGood bs) (BadBy (SymbolGood bs) SymbolBad) (N bs) (symbols_check bs)
  symbols_told = single_told _ (symbol g) (SymbolGood bs) symbol_test SymbolBad (N bs)

  productions_none : AllGood (ProductionGood bs) (P bs) → productions_check bs ≡ Ok tt
  productions_none = single_none _ (production g) (ProductionGood bs) production_test ProductionBad (P bs)

  productions_is : (i : ℕ) → FirstBad (ProductionGood bs) (P bs) i → productions_check bs ≡ Err (Record 5 i)
  productions_is = single_is _ (production g) (ProductionGood bs) production_test ProductionBad (P bs)

  productions_told : FirstTold (ProductionGood bs) (BadBy (ProductionGood bs) ProductionBad) (P bs) (productions_check bs)
  productions_told = single_told _ (production g) (ProductionGood bs) production_test ProductionBad (P bs)

  edges_is : (i k : ℕ) → i < E bs → AllGood (EdgeGood (grammar_of bs)) i → EdgeBreaks (grammar_of bs) i k → edges_check bs ≡ Err (Record k i)
  edges_is i k l all bad =
      let r = edge_broken g i k bad in
      first_is (edge_rule g) (edge g) (EdgeGood g) (edge_good g) (E bs) i r.0 l all r.2 ∙ ap (λ (n : ℕ). Err (Record n i)) r.1

  edges_told : FirstTold (EdgeGood (grammar_of bs)) (EdgeBad (grammar_of bs)) (E bs) (edges_check bs)
  edges_told = first_told (edge_rule g) (EdgeGood g) (EdgeBad g) (edge_said g) (E bs)

-- ---- the checks in their order
pub data Ending (bs : List ℕ) : Checked → Type 0 where
  taken : BeforeEdges bs → AllGood (EdgeGood (grammar_of bs)) (E bs) → Ending bs (Ok tt)
  refused : {b : Broken} → Breaks bs b → Ending bs (Err b)

module _ (bs : List ℕ) where
  by_edges : BeforeEdges bs → (c : Checked) → FirstTold (EdgeGood (grammar_of bs)) (EdgeBad (grammar_of bs)) (E bs) c → Ending bs c
  by_edges b c (all_good all) = taken b all
  by_edges b c (one_bad i k l all bad) = refused (edge_bad b i (number k) l all bad)

  by_productions : BeforeRecords bs → AllGood (SymbolGood bs) (N bs) → (c d : Checked)
      → FirstTold (ProductionGood bs) (BadBy (ProductionGood bs) ProductionBad) (P bs) c
      → FirstTold (EdgeGood (grammar_of bs)) (EdgeBad (grammar_of bs)) (E bs) d → Ending bs (and_check c d)
  unfolding and_check
  by_productions b s c d (all_good all) t = by_edges (b, s, all) d t
  by_productions b s c d (one_bad i k l all bad) t =
      refused
      (subst (λ (j : Rule). Breaks bs (Record (number j) i)) (sym bad.1)
      (production_bad b s i (record { there = l; before = all; bad = bad.0 })))

  by_symbols : BeforeRecords bs → (c d e : Checked) → FirstTold (SymbolGood bs) (BadBy (SymbolGood bs) SymbolBad) (N bs) c
      → FirstTold (ProductionGood bs) (BadBy (ProductionGood bs) ProductionBad) (P bs) d
      → FirstTold (EdgeGood (grammar_of bs)) (EdgeBad (grammar_of bs)) (E bs) e → Ending bs (and_check c (and_check d e))
  unfolding and_check
  by_symbols b c d e (all_good all) t u = by_productions b all d e t u
  by_symbols b c d e (one_bad i k l all bad) t u =
      refused
      (subst (λ (j : Rule). Breaks bs (Record (number j) i)) (sym bad.1) (symbol_bad b i (record { there = l; before = all; bad = bad.0 })))

  pub ending : Ending bs (refusal bs)
  ending = by_header (dec_le 24 (length bs))
    where
      End : Type 0
      End = Ending bs (refusal bs)

      by : {c : Checked} → refusal bs ≡ c → Ending bs c → End
      by e = subst (Ending bs) (sym e)

      by_header : Dec (24 ≤ length bs) → End
      by_header (no n) = by (refusal_one bs (omega arith)) (refused (header_short n))
      by_header (yes h) = by_counts (outcome (counts_decide bs))
        where
          by_counts : Outcome (counts_ok bs) (CountsInRange bs) → End
          by_counts (fails t n) = by (refusal_two bs h t) (refused (counts h n))
          by_counts (holds t c) = by_offsets (outcome (offsets_decide bs))
            where
              by_offsets : Outcome (offsets_ok bs) (OffsetsRight bs) → End
              by_offsets (fails u n) = by (refusal_three bs h t u) (refused (offsets h c n))
              by_offsets (holds u o) =
                  by (refusal_records bs h t u)
                  (by_symbols (h, c, o) _ _ _ (symbols_told bs) (productions_told bs) (edges_told bs))

  to_records : BeforeRecords bs → refusal bs ≡ and_check (symbols_check bs) (and_check (productions_check bs) (edges_check bs))
  to_records b = refusal_records bs b.0 ((counts_decide bs).passes b.1) ((offsets_decide bs).passes b.2)

  pub shown : {b : Broken} → Breaks bs b → refusal bs ≡ Err b
  unfolding and_check
  shown (header_short n) = refusal_one bs (omega arith)
  shown (counts h n) = refusal_two bs h (not_so (counts_decide bs) n)
  shown (offsets h c n) = refusal_three bs h ((counts_decide bs).passes c) (not_so (offsets_decide bs) n)
  shown (symbol_bad b i f) = to_records b ∙ rw (symbols_is bs i f)
  shown (production_bad b s i f) = to_records b ∙ and_good _ (symbols_none bs s) ∙ rw (productions_is bs i f)
  shown (edge_bad b i k l all bad) =
      to_records b.0 ∙ and_good _ (symbols_none bs b.1) ∙ and_good _ (productions_none bs b.2) ∙ edges_is bs i k l all bad

  broken_by : (c : Checked) → Ending bs c → (b : Broken) → c ≡ Err b → Breaks bs b
  broken_by c (taken h all) b e = let z : ◌≡◌ {A = ℕ} 0 1 = cc in absurd (omega arith)
  broken_by c (refused {b = d} h) b e = let q : d ≡ b = cc in subst (Breaks bs) q h

pub refused_exactly : RefusalExactly
refused_exactly bs b = (broken_by bs (refusal bs) (ending bs) b, shown bs)
