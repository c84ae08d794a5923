-- A store that keeps its loans, one step after the other. Assumes nothing.
use mathlib.Core.Path.{◌≡◌, refl, sym, ◌∙◌}
use Rattle.std.specs.Borrow.{GName}
use Rattle.steps.specs.declared.Store.{Store}
use Rattle.steps.specs.Lent.{Lent}

pub lent_same : (s : Store) → Lent s s
lent_same s = record { symbols = refl; graphs = refl; productions = refl; kids = refl }

pub lent_then : {s t u : Store} → Lent s t → Lent t u → Lent s u
lent_then a b =
    record {
      symbols = b.symbols ∙ a.symbols;
      graphs = b.graphs ∙ a.graphs;
      productions = b.productions ∙ a.productions;
      kids = b.kids ∙ a.kids;
    }

-- the loans that a store holds, by their names
abbrev pub Loans : Type 0
Loans = GName × GName × GName × GName

abbrev pub loans : Store → Loans
loans s = (s.symbols.ghost_name, s.graphs.ghost_name, s.productions.ghost_name, s.kids.ghost_name)

-- a store can be left with its loans in one way only
pub same_loans : {s t u : Store} → Lent s t → Lent s u → loans t ≡ loans u
same_loans a b i = (
  (a.symbols ∙ sym b.symbols) i,
  (a.graphs ∙ sym b.graphs) i,
  (a.productions ∙ sym b.productions) i,
  (a.kids ∙ sym b.kids) i,
)
