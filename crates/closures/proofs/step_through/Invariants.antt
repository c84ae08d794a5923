-- `closures::step_through` meets its contract. The loop's invariant: the first i rows are changed. Assumes nothing.
use mathlib.Core.Path.{◌≡◌}
use Rattle.graph.specs.Rows.{through}
use Rattle.graph.specs.Parts.{map_first}
use Rattle.closures.proofs.step_through.Given as goal

abbrev pub invariant-loop-i : goal.invariant-loop-i
invariant-loop-i l = l.rows ≡ map_first l.i (through l.k l.via) l.initial.rows
