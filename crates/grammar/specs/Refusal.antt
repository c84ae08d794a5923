-- The first rule that a table breaks, and the first bad record, computed. Assumes nothing.
use Rattle.std.specs.Prelude.{Bool, true, false, cond, List, ℕ, zero, suc, ◌-◌, ◌^◌, leb, ltb, eqb, length, drop, Result, Ok, Err}
use Rattle.numbers.specs.Number.{bit, le4}
use Rattle.numbers.specs.Lists.{both, every, below}
use Rattle.grammar.specs.declared.Symbol.{Symbol}
use Rattle.grammar.specs.declared.Production.{Production}
use Rattle.grammar.specs.declared.Edge.{Edge}
use Rattle.grammar.specs.declared.Rule.{Rule}
use Rattle.grammar.specs.declared.Rule.TheVariants.{HeaderShort, Counts, Offsets, SymbolBad, ProductionBad, NotAbove, NoSuchProduction, NoOccurrence, NoAttribute, NotAllowed}
use Rattle.grammar.specs.declared.Broken.{Broken}
use Rattle.grammar.specs.declared.Broken.TheVariants.{Rule as Whole, Record}
use Rattle.grammar.specs.Grammar.{Grammar, symbol, production, rights}
use Rattle.grammar.specs.Table.{N, P, E, start_of, at_symbols, at_productions, at_edges, total, width_of, grammar_of}
use Rattle.grammar.specs.Rules.{producer, symbol_of, key, edge}

unfoldable pub counts_ok : List ℕ → Bool
counts_ok bs =
    both (leb 1 (N bs))
    (both (leb (N bs) 256) (both (leb (P bs) 512) (both (leb (E bs) 8192) (ltb (start_of bs) (N bs)))))

unfoldable pub offsets_ok : List ℕ → Bool
offsets_ok bs =
    both (eqb (le4 bs 8) at_symbols)
    (both (eqb (le4 bs 12) (at_productions bs))
    (both (eqb (le4 bs 16) (at_edges bs)) (both (eqb (le4 bs 20) (total bs)) (eqb (total bs) (length bs)))))

unfoldable pub symbol_ok : ℕ → Symbol → Bool
symbol_ok w s = both (leb s.count w) (ltb s.mask (2 ^ s.count))

unfoldable pub production_ok : ℕ → Production → Bool
production_ok n p =
    both (ltb p.left n)
    (both (leb p.n 7) (both (every (λ s. ltb s n) (rights p)) (every (λ s. eqb s 0) (drop p.n p.slots))))

unfoldable pub allowed : ℕ → ℕ → Bool
allowed zero inherited = eqb inherited 0
allowed (suc k) inherited = eqb inherited 1

unfoldable pub occurrences_ok : Grammar → Edge → Bool
occurrences_ok g e = both (leb e.source.occurrence (producer g e).n) (leb e.target.occurrence (producer g e).n)

unfoldable pub attributes_ok : Grammar → Edge → Bool
attributes_ok g e =
    both (ltb e.source.attribute (symbol_of g e e.source).count) (ltb e.target.attribute (symbol_of g e e.target).count)

unfoldable pub target_ok : Grammar → Edge → Bool
target_ok g e = allowed e.target.occurrence (bit e.target.attribute (symbol_of g e e.target).mask)

-- the edge i is above the edge before it; the first has none before
unfoldable pub in_order : ℕ → Edge → Edge → Bool
in_order zero before e = true
in_order (suc i) before e = below (key before) (key e)

-- ---- a record that is read, or the rule that it breaks

-- the published number of a rule
abbrev pub number : Rule → ℕ
number HeaderShort = 1
number Counts = 2
number Offsets = 3
number SymbolBad = 4
number ProductionBad = 5
number NotAbove = 7
number NoSuchProduction = 10
number NoOccurrence = 11
number NoAttribute = 12
number NotAllowed = 13

unfoldable pub or_rule : {A : Type 0} → Bool → Rule → Result A Rule → Result A Rule
or_rule true k rest = rest
or_rule false k rest = Err k

abbrev pub symbol_read : ℕ → Symbol → Result Symbol Rule
symbol_read w s = or_rule (symbol_ok w s) SymbolBad (Ok s)

abbrev pub production_read : ℕ → Production → Result Production Rule
production_read n p = or_rule (production_ok n p) ProductionBad (Ok p)

-- the edge e with the number i, after the edge `before`: 10 to 13 in this order, then 7
unfoldable pub edge_read : Grammar → ℕ → Edge → Edge → Result Edge Rule
edge_read g i before e =
    or_rule (ltb e.production (length g.productions)) NoSuchProduction
    (or_rule (occurrences_ok g e) NoOccurrence
    (or_rule (attributes_ok g e) NoAttribute
    (or_rule (target_ok g e) NotAllowed
    (or_rule (in_order i before e) NotAbove (Ok e)))))

-- by their numbers in a table
abbrev pub symbol_rule : List ℕ → ℕ → Result Symbol Rule
symbol_rule bs i = symbol_read (width_of bs) (symbol (grammar_of bs) i)

abbrev pub production_rule : List ℕ → ℕ → Result Production Rule
production_rule bs i = production_read (N bs) (production (grammar_of bs) i)

abbrev pub edge_rule : Grammar → ℕ → Result Edge Rule
edge_rule g i = edge_read g i (edge g (i - 1)) (edge g i)

-- ---- the first record that breaks one decides

-- what a check says: nothing is broken, or what is
abbrev pub Checked : Type 0
Checked = Result (Unit {0}) Broken

-- the second check is made where the first finds nothing
unfoldable pub and_check : Checked → Checked → Checked
and_check (Ok u) next = next
and_check (Err b) next = Err b

-- the refusal of the record i, handed up
abbrev pub handed_up : {A : Type 0} → ℕ → Result A Rule → Checked
handed_up i (Ok x) = Ok tt
handed_up i (Err k) = Err (Record (number k) i)

-- of n records from the number i on
unfoldable pub first_bad : {A : Type 0} → (ℕ → Result A Rule) → ℕ → ℕ → Checked
first_bad read i zero = Ok tt
first_bad read i (suc n) = and_check (handed_up i (read i)) (first_bad read (suc i) n)

-- what the table is: good, or refused for the first rule that it breaks
unfoldable pub refusal : List ℕ → Checked
refusal bs =
    cond (leb 24 (length bs))
    (cond (counts_ok bs)
    (cond (offsets_ok bs)
    (and_check (first_bad (symbol_rule bs) 0 (N bs))
    (and_check (first_bad (production_rule bs) 0 (P bs)) (first_bad (edge_rule (grammar_of bs)) 0 (E bs))))
    (Err (Whole (number Offsets))))
    (Err (Whole (number Counts))))
    (Err (Whole (number HeaderShort)))
