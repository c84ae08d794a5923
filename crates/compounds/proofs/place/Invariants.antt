-- `compounds::place` meets its contract. The loop's invariant: the pairs that begin in the first a attributes are placed. Assumes nothing.
use mathlib.Core.Path.{◌≡◌}
use Rattle.graph.specs.Rows.{placed_to}
use Rattle.compounds.proofs.place.Given as goal

abbrev pub invariant-loop-a : goal.invariant-loop-a
invariant-loop-a l = l.rows ≡ placed_to 8 l.occurrence l.graph l.a l.initial.rows
