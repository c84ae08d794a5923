-- The tests of an edge, by what was read for them. Assumes nothing.
use mathlib.Core.Path.{◌≡◌, sym, ap, ◌∙◌}
use mathlib.Core.Bool.{Bool, true, false}
use mathlib.Core.List.{List}
use Prim.Native.Nat.{ℕ, ◌+◌, ◌*◌, ◌≤◌, ◌<◌}
use native.Mathlib.Omega.{arith}
use borrow.Author.Tests.{lt-ltb, le-ltb}
use lib.Dec.{leb, ltb}
use lib.ListN.{length}
use Rattle.numbers.specs.Number.{bit}
use Rattle.numbers.specs.Lists.{both}
use Rattle.std.specs.Prelude.{Result, Ok, Err}
use Rattle.grammar.specs.declared.Header.{Header}
use Rattle.grammar.specs.declared.Offsets.{Offsets}
use Rattle.grammar.specs.declared.Symbol.{Symbol}
use Rattle.grammar.specs.declared.Production.{Production}
use Rattle.grammar.specs.declared.Node.{Node}
use Rattle.grammar.specs.declared.Edge.{Edge}
use Rattle.grammar.specs.declared.Rule.{Rule}
use Rattle.grammar.specs.declared.Rule.TheVariants.{NotAbove, NoSuchProduction, NoOccurrence, NoAttribute, NotAllowed}
use Rattle.grammar.specs.Grammar.{Grammar, symbol, symbol_at}
use Rattle.grammar.specs.Table.{P, production_in, grammar_of}
use Rattle.grammar.specs.Rules.{producer, symbol_of}
use Rattle.grammar.specs.Refusal.{allowed, occurrences_ok, attributes_ok, target_ok, in_order, edge_read}
use Rattle.grammar.specs.Reading.{header_of, offsets_of, edge_at}
use Rattle.grammar.proofs.Lookups.{productions_many, production_there}
use Rattle.grammar.proofs.Handing.{read_ten, read_eleven, read_twelve, read_thirteen, read_seven, read_whole}

module _ (bs : List ℕ) (e : Edge) where
  pub there : {h : Header} → h ≡ header_of bs → e.production < h.productions → e.production < P bs
  there is l = let many = ap (λ (x : Header). x.productions) is in omega arith

  pub not_there : {h : Header} → h ≡ header_of bs → h.productions ≤ e.production → P bs ≤ e.production
  not_there is l = let many = ap (λ (x : Header). x.productions) is in omega arith

  -- the record of the edge's production, which begins where the offsets say
  pub found : {o : Offsets} {w : ℕ} → o ≡ offsets_of bs → w ≡ e.production → e.production < P bs
      → production_in bs (o.productions + 18 * w) ≡ producer (grammar_of bs) e
  found is at l =
      (λ i. production_in bs ((is i).productions + 18 * at i)) ∙ sym (production_there bs e.production l)

module _ (g : Grammar) (e : Edge) {p : Production} (is : p ≡ producer g e) where
  pub occurrences_told : {n : ℕ} {r : Bool} → n ≡ p.n → r ≡ both (leb e.source.occurrence n) (leb e.target.occurrence n) → occurrences_ok g e ≡ r
  unfolding occurrences_ok
  occurrences_told many told =
      sym (told ∙ ap (λ (m : ℕ). both (leb e.source.occurrence m) (leb e.target.occurrence m)) (many ∙ ap (λ (q : Production). q.n) is))

  at_occurrence : {m : ℕ} {s : Symbol} (x : Node) → m ≡ symbol_at p x.occurrence → s ≡ symbol g m → s ≡ symbol_of g e x
  at_occurrence x at found = found ∙ ap (symbol g) (at ∙ ap (λ (q : Production). symbol_at q x.occurrence) is)

  -- the symbols at the source and at the target are read by their numbers, m and n
  module _ {m n : ℕ} {s t : Symbol} (s_at : m ≡ symbol_at p e.source.occurrence) (s_is : s ≡ symbol g m)
      (t_at : n ≡ symbol_at p e.target.occurrence) (t_is : t ≡ symbol g n) where
    pub attributes_told : {r : Bool} → r ≡ both (ltb e.source.attribute s.count) (ltb e.target.attribute t.count) → attributes_ok g e ≡ r
    unfolding attributes_ok
    attributes_told told =
        let source = at_occurrence e.source s_at s_is in
        let target = at_occurrence e.target t_at t_is in
        sym (told ∙ λ i. both (ltb e.source.attribute (source i).count) (ltb e.target.attribute (target i).count))

    pub target_told : {r : Bool} → r ≡ allowed e.target.occurrence (bit e.target.attribute t.mask) → target_ok g e ≡ r
    unfolding target_ok
    target_told told =
        sym (told ∙ ap (λ (x : Symbol). allowed e.target.occurrence (bit e.target.attribute x.mask)) (at_occurrence e.target t_at t_is))

-- what is read, by the tests that the edge passes, in their order
module _ (bs : List ℕ) (i : ℕ) (before : Edge) {e : Edge} (is : e ≡ edge_at bs i) where
  abbrev g : Grammar
  g = grammar_of bs

  abbrev Reads : Result Edge Rule → Type 0
  Reads r = r ≡ edge_read (grammar_of bs) i before (edge_at bs i)

  reads : {r : Result Edge Rule} → edge_read (grammar_of bs) i before e ≡ r → Reads r
  reads h = sym h ∙ ap (edge_read g i before) is

  pub ten : P bs ≤ e.production → Reads (Err NoSuchProduction)
  ten l = reads (read_ten g i before e (le-ltb e.production (length g.productions) (omega (arith, productions_many bs))))

  module _ (l : e.production < P bs) where
    is_there : ltb e.production (length (grammar_of bs).productions) ≡ true
    is_there = lt-ltb e.production (length g.productions) (omega (arith, productions_many bs))

    pub eleven : occurrences_ok (grammar_of bs) e ≡ false → Reads (Err NoOccurrence)
    eleven p = reads (read_eleven g i before e is_there p)

    module _ (o : occurrences_ok (grammar_of bs) e ≡ true) where
      pub twelve : attributes_ok (grammar_of bs) e ≡ false → Reads (Err NoAttribute)
      twelve p = reads (read_twelve g i before e is_there o p)

      module _ (a : attributes_ok (grammar_of bs) e ≡ true) where
        pub thirteen : target_ok (grammar_of bs) e ≡ false → Reads (Err NotAllowed)
        thirteen p = reads (read_thirteen g i before e is_there o a p)

        module _ (t : target_ok (grammar_of bs) e ≡ true) where
          pub seven : in_order i before e ≡ false → Reads (Err NotAbove)
          seven p = reads (read_seven g i before e is_there o a t p)

          pub whole : in_order i before e ≡ true → Reads (Ok e)
          whole p = reads (read_whole g i before e is_there o a t p)
