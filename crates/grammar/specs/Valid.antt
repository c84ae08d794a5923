-- The theorems about the check, as statements. Assumes nothing.
use mathlib.Core.List.{List, Memᴰ}
use Rattle.std.specs.Prelude.{◌↔◌, ◌≡◌, ℕ, ◌<◌, Ok, Err}
use Rattle.numbers.specs.Lists.{Below}
use Rattle.grammar.specs.declared.Symbol.{Symbol}
use Rattle.grammar.specs.declared.Production.{Production}
use Rattle.grammar.specs.declared.Edge.{Edge}
use Rattle.grammar.specs.declared.Broken.{Broken}
use Rattle.grammar.specs.Grammar.{edges_of}
use Rattle.grammar.specs.Table.{N, E, width_of, edges_in, grammar_of}
use Rattle.grammar.specs.Rules.{HasHeader, CountsInRange, OffsetsRight, GoodSymbol, GoodProduction, GoodEdge, AllGood, EdgeGood, Breaks, key, edge}
use Rattle.grammar.specs.Refusal.{refusal}
use Rattle.grammar.specs.Reading.{run_of}

-- a refusal comes exactly for a table that breaks the rule of its number, with the record of its number, and none that is looked at before
abbrev pub RefusalExactly : Type 0
RefusalExactly = (bs : List ℕ) (b : Broken) → (refusal bs ≡ Err b) ↔ Breaks bs b

-- a table that obeys every rule
pub record Valid (bs : List ℕ) : Type 0 where
  pub header : HasHeader bs
  pub counts : CountsInRange bs
  pub offsets : OffsetsRight bs
  pub symbols : (s : Symbol) → Memᴰ s (grammar_of bs).symbols → GoodSymbol (width_of bs) s
  pub productions : (p : Production) → Memᴰ p (grammar_of bs).productions → GoodProduction (N bs) p
  pub edges : (e : Edge) → Memᴰ e (grammar_of bs).edges → GoodEdge (grammar_of bs) e
  -- each edge is good and above the edge before it
  pub ordered : AllGood (EdgeGood (grammar_of bs)) (E bs)
  -- and so above every earlier one
  pub ascending : (i j : ℕ) → i < j → j < E bs → Below (key (edge (grammar_of bs) i)) (key (edge (grammar_of bs) j))
  -- the run of a production is all of its edges, and only them
  pub runs : (p : ℕ) → edges_in (run_of bs p) ≡ edges_of (grammar_of bs) p

-- a table that is not refused is valid
abbrev pub TakenIsValid : Type 0
TakenIsValid = (bs : List ℕ) → refusal bs ≡ Ok tt → Valid bs
