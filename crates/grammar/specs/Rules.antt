-- The rules of the table, each a statement of its own; what it is to break one. Assumes nothing.
use mathlib.Core.List.{List, [], ◌∷◌, Memᴰ}
use Rattle.std.specs.Prelude.{◌≡◌, ℕ, zero, suc, ◌^◌, ◌≤◌, ◌<◌, length, get_or, drop}
use Rattle.numbers.specs.Number.{bit, le4}
use Rattle.numbers.specs.Lists.{Below}
use Rattle.grammar.specs.declared.Symbol.{Symbol}
use Rattle.grammar.specs.declared.Production.{Production}
use Rattle.grammar.specs.declared.Node.{Node}
use Rattle.grammar.specs.declared.Edge.{Edge}
use Rattle.grammar.specs.declared.Broken.{Broken}
use Rattle.grammar.specs.declared.Broken.TheVariants.{Rule, Record}
use Rattle.grammar.specs.Grammar.{Grammar, symbol, production, rights, symbol_at}
use Rattle.grammar.specs.Table.{N, P, E, start_of, at_symbols, at_productions, at_edges, total, width_of, grammar_of}

-- 1, header: there are 24 bytes
abbrev pub HasHeader : List ℕ → Type 0
HasHeader bs = 24 ≤ length bs

-- 2, counts
pub record CountsInRange (bs : List ℕ) : Type 0 where
  pub some_symbol : 1 ≤ N bs
  pub symbols : N bs ≤ 256
  pub productions : P bs ≤ 512
  pub edges : E bs ≤ 8192
  pub start : start_of bs < N bs

-- 3, offsets
pub record OffsetsRight (bs : List ℕ) : Type 0 where
  pub symbols : le4 bs 8 ≡ at_symbols
  pub productions : le4 bs 12 ≡ at_productions bs
  pub edges : le4 bs 16 ≡ at_edges bs
  pub whole : le4 bs 20 ≡ total bs
  pub given : total bs ≡ length bs

-- 4, symbol: at most w attributes, and the mask bits at or above the count are zero
pub record GoodSymbol (w : ℕ) (s : Symbol) : Type 0 where
  pub count : s.count ≤ w
  pub mask : s.mask < 2 ^ s.count

-- 5, production, of a grammar with n symbols
pub record GoodProduction (n : ℕ) (p : Production) : Type 0 where
  pub left : p.left < n
  pub few : p.n ≤ 7
  pub right : (s : ℕ) → Memᴰ s (rights p) → s < n
  pub spare : (s : ℕ) → Memᴰ s (drop p.n p.slots) → s ≡ 0

-- an attribute of an occurrence of the production
pub record NodeThere (g : Grammar) (p : Production) (x : Node) : Type 0 where
  pub occurrence : x.occurrence ≤ p.n
  pub attribute : x.attribute < (symbol g (symbol_at p x.occurrence)).count

-- a target is a synthesized attribute of occurrence 0 or an inherited one of occurrence 1 to n
abbrev pub Allowed : ℕ → ℕ → Type 0
Allowed zero inherited = inherited ≡ 0
Allowed (suc k) inherited = inherited ≡ 1

-- the production of an edge
abbrev pub producer : Grammar → Edge → Production
producer g e = production g e.production

-- the symbol at an occurrence of the edge's production
abbrev pub symbol_of : Grammar → Edge → Node → Symbol
symbol_of g e x = symbol g (symbol_at (producer g e) x.occurrence)

-- 10, production: it is there
abbrev pub ProductionThere : Grammar → Edge → Type 0
ProductionThere g e = e.production < length g.productions

-- 11, occurrence: the source's and the target's are in range
abbrev pub OccurrencesThere : Grammar → Edge → Type 0
OccurrencesThere g e = (e.source.occurrence ≤ (producer g e).n) × (e.target.occurrence ≤ (producer g e).n)

-- 12, attribute: the source's and the target's are in range
abbrev pub AttributesThere : Grammar → Edge → Type 0
AttributesThere g e =
    (e.source.attribute < (symbol_of g e e.source).count) × (e.target.attribute < (symbol_of g e e.target).count)

-- 13, target: it is allowed
abbrev pub TargetAllowed : Grammar → Edge → Type 0
TargetAllowed g e = Allowed e.target.occurrence (bit e.target.attribute (symbol_of g e e.target).mask)

-- these four together
pub record GoodEdge (g : Grammar) (e : Edge) : Type 0 where
  pub production_there : ProductionThere g e
  pub source : NodeThere g (producer g e) e.source
  pub target : NodeThere g (producer g e) e.target
  pub allowed : TargetAllowed g e

-- 7, edge order: by production, then by the other four fields in their order
abbrev pub key : Edge → List ℕ
key e = e.production ∷ e.source.occurrence ∷ e.source.attribute ∷ e.target.occurrence ∷ e.target.attribute ∷ []

abbrev pub no_edge : Edge
no_edge = record { production = 0; source = record { occurrence = 0; attribute = 0 }; target = record { occurrence = 0; attribute = 0 } }

abbrev pub edge : Grammar → ℕ → Edge
edge g i = get_or g.edges i no_edge

-- the edge i is above the edge before it; the first has none before
abbrev pub AboveBefore : Grammar → ℕ → Type 0
AboveBefore g zero = Unit {0}
AboveBefore g (suc i) = Below (key (edge g i)) (key (edge g (suc i)))

-- ---- which record is bad

-- each of the first n records is good
abbrev pub AllGood : (ℕ → Type 0) → ℕ → Type 0
AllGood Good n = (j : ℕ) → j < n → Good j

-- the record i, of n, is the first that is not good
pub record FirstBad (Good : ℕ → Type 0) (n i : ℕ) : Type 0 where
  pub there : i < n
  pub before : AllGood Good i
  pub bad : ¬ Good i

abbrev pub SymbolGood : List ℕ → ℕ → Type 0
SymbolGood bs i = GoodSymbol (width_of bs) (symbol (grammar_of bs) i)

abbrev pub ProductionGood : List ℕ → ℕ → Type 0
ProductionGood bs i = GoodProduction (N bs) (production (grammar_of bs) i)

-- good, and in order
abbrev pub EdgeGood : Grammar → ℕ → Type 0
EdgeGood g i = GoodEdge g (edge g i) × AboveBefore g i

-- the edge i breaks the rule k, and none that is looked at before it: 10 to 13 in this order, then 7
pub data EdgeBreaks (g : Grammar) (i : ℕ) : ℕ → Type 0 where
  no_such_production : (¬ ProductionThere g (edge g i)) → EdgeBreaks g i 10
  no_occurrence : ProductionThere g (edge g i) → (¬ OccurrencesThere g (edge g i)) → EdgeBreaks g i 11
  no_attribute : ProductionThere g (edge g i) → OccurrencesThere g (edge g i) → (¬ AttributesThere g (edge g i)) → EdgeBreaks g i 12
  not_allowed :
      ProductionThere g (edge g i) → OccurrencesThere g (edge g i) → AttributesThere g (edge g i) → (¬ TargetAllowed g (edge g i))
      → EdgeBreaks g i 13
  not_above : GoodEdge g (edge g i) → (¬ AboveBefore g i) → EdgeBreaks g i 7

-- ---- which rule is broken

-- what is looked at before the records
abbrev pub BeforeRecords : List ℕ → Type 0
BeforeRecords bs = HasHeader bs × CountsInRange bs × OffsetsRight bs

-- and before the edges
abbrev pub BeforeEdges : List ℕ → Type 0
BeforeEdges bs = BeforeRecords bs × AllGood (SymbolGood bs) (N bs) × AllGood (ProductionGood bs) (P bs)

-- The table breaks the rule of a number, with the number of a record where the rule is of records, and none that is looked at before it:
-- 1 to 5 each over its whole table, then the edges by number. Of the records of a table the first bad one decides.
pub data Breaks (bs : List ℕ) : Broken → Type 0 where
  header_short : (¬ HasHeader bs) → Breaks bs (Rule 1)
  counts : HasHeader bs → (¬ CountsInRange bs) → Breaks bs (Rule 2)
  offsets : HasHeader bs → CountsInRange bs → (¬ OffsetsRight bs) → Breaks bs (Rule 3)
  symbol_bad : BeforeRecords bs → (i : ℕ) → FirstBad (SymbolGood bs) (N bs) i → Breaks bs (Record 4 i)
  production_bad :
      BeforeRecords bs → AllGood (SymbolGood bs) (N bs) → (i : ℕ) → FirstBad (ProductionGood bs) (P bs) i
      → Breaks bs (Record 5 i)
  edge_bad :
      BeforeEdges bs → (i k : ℕ) → i < E bs → AllGood (EdgeGood (grammar_of bs)) i → EdgeBreaks (grammar_of bs) i k
      → Breaks bs (Record k i)
