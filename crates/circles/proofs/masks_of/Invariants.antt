-- `circles::masks_of` meets its contract. The invariant: the masks of the occurrences passed stand in their places. Assumes nothing.
use mathlib.Core.Path.{◌≡◌}
use mathlib.Core.List.{List, map}
use Prim.Native.Nat.{ℕ, ◌≤◌}
use Rattle.numbers.specs.Lists.{up_from}
use Rattle.grammar.specs.declared.Production.{Production}
use Rattle.grammar.specs.Grammar.{Grammar, symbol, symbol_at}
use Rattle.grammar.specs.Table.{grammar_of}
use Rattle.graph.specs.Trails.{filled_up}
use Rattle.circles.proofs.masks_of.Given as goal

abbrev pub mask_at : Grammar → Production → ℕ → ℕ
mask_at g p o = (symbol g (symbol_at p o)).mask

-- the masks of the first o occurrences
abbrev pub masked_to : Grammar → Production → ℕ → List ℕ
masked_to g p o = filled_up 8 (map (mask_at g p) (up_from 0 o))

abbrev pub invariant-loop-o : goal.invariant-loop-o
invariant-loop-o l = (l.o ≤ l.o-end) × (l.masks ≡ masked_to (grammar_of l.table) l.production l.o)
