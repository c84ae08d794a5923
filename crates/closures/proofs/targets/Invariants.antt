-- `closures::targets` meets its contract. The loop's invariant: the targets of the first rows are there. Assumes nothing.
use mathlib.Core.Path.{◌≡◌}
use Rattle.graph.specs.Parts.{targets_to}
use Rattle.closures.proofs.targets.Given as goal

abbrev pub invariant-loop-row : goal.invariant-loop-row
invariant-loop-row l = l.all ≡ targets_to l.row-index l.rows
