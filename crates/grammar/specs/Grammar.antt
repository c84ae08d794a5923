-- The grammar as a record of lists. Assumes nothing.
use Rattle.std.specs.Prelude.{List, ℕ, zero, suc, eqb, get_or, take, replicate}
use Rattle.numbers.specs.Lists.{keep}
use Rattle.grammar.specs.declared.Symbol.{Symbol}
use Rattle.grammar.specs.declared.Production.{Production}
use Rattle.grammar.specs.declared.Edge.{Edge}

pub record Grammar : Type 0 where
  pub start : ℕ
  pub symbols : List Symbol
  pub productions : List Production
  pub edges : List Edge

-- what stands at a number that is out of range does not matter: the rules leave none
abbrev pub no_symbol : Symbol
no_symbol = record { count = 0; mask = 0 }

abbrev pub no_production : Production
no_production = record { left = 0; n = 0; slots = replicate 7 0 }

abbrev pub symbol : Grammar → ℕ → Symbol
symbol g i = get_or g.symbols i no_symbol

abbrev pub production : Grammar → ℕ → Production
production g i = get_or g.productions i no_production

-- only n says how many slots count
abbrev pub rights : Production → List ℕ
rights p = take p.n p.slots

-- the symbol at an occurrence: 0 is the left one, 1 to n are the right ones
unfoldable pub symbol_at : Production → ℕ → ℕ
symbol_at p zero = p.left
symbol_at p (suc k) = get_or (rights p) k 0

-- a production's edges
abbrev pub edges_of : Grammar → ℕ → List Edge
edges_of g p = keep (λ e. eqb e.production p) g.edges
