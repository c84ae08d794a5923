-- What is stored: combinations of entries, how an entry is made of earlier ones, and when nothing is left to make. Assumes nothing.
use Rattle.std.specs.Prelude.{◌≡◌, true, false, ℕ, ◌<◌, length}
use mathlib.Core.List.{List, Memᴰ}
use Rattle.grammar.specs.Fits.{Fits}
use Rattle.rules.specs.declared.Entry.{Entry}
use Rattle.rules.specs.Passes.{System, entry, graphs, seven, counting}

-- the productions of a list
abbrev pub In : List ℕ → ℕ → Type 0
In ps p = Memᴰ p ps

-- one entry number for each of the symbols bs: it passes P, and its entry has that symbol
abbrev pub FitsIn : List Entry → (ℕ → Type 0) → List ℕ → List ℕ → Type 0
FitsIn es P = Fits P (λ k. (entry es k).symbol)

-- a combination of the entries below n
abbrev pub Combination : List Entry → ℕ → List ℕ → List ℕ → Type 0
Combination es n = FitsIn es (λ i. i < n)

-- the graphs of the entries in these slots
abbrev pub kid_graphs : System → List Entry → ℕ → List ℕ → List ℕ
kid_graphs W es p slots = graphs es (counting (W.rights p) slots)

-- the production p takes part, and its slots hold a combination of the entries below n, and 0 from there on
pub record Slots (W : System) (Part : ℕ → Type 0) (es : List Entry) (n p : ℕ) (slots : List ℕ) : Type 0 where
  pub part : Part p
  pub rest : slots ≡ seven (counting (W.rights p) slots)
  pub fits : Combination es n (counting (W.rights p) slots) (W.rights p)

-- the entry number k is made by its production over earlier entries
pub record Made (W : System) (Part : ℕ → Type 0) (es : List Entry) (k : ℕ) (e : Entry) : Type 0 where
  pub kids : Slots W Part es k e.production e.kids
  pub symbol : e.symbol ≡ W.left e.production
  pub graph : e.graph ≡ W.graph e.production (kid_graphs W es e.production e.kids)
  pub calm : W.circle e.production (kid_graphs W es e.production e.kids) ≡ false

-- the root of a circular answer: over its entries the production has a circle
pub record Root (W : System) (Part : ℕ → Type 0) (es : List Entry) (p : ℕ) (slots : List ℕ) : Type 0 where
  pub kids : Slots W Part es (length es) p slots
  pub round : W.circle p (kid_graphs W es p slots) ≡ true

-- no two entries have the same symbol and graph
abbrev pub Different : List Entry → Type 0
Different es =
    (i j : ℕ) → i < length es → j < length es → (entry es i).symbol ≡ (entry es j).symbol
    → (entry es i).graph ≡ (entry es j).graph → i ≡ j

-- the symbol a with the graph g is stored
pub record PairStored (es : List Entry) (a g : ℕ) : Type 0 where
  pub number : ℕ
  pub among : number < length es
  pub symbol : (entry es number).symbol ≡ a
  pub graph : (entry es number).graph ≡ g

-- nothing is left to make: no combination of entries gives a circle, or a pair that is not stored
abbrev pub AllMade : System → (ℕ → Type 0) → List Entry → Type 0
AllMade W Part es =
    (p : ℕ) → Part p → (c : List ℕ) → Combination es (length es) c (W.rights p)
    → (W.circle p (graphs es c) ≡ false) × PairStored es (W.left p) (W.graph p (graphs es c))
