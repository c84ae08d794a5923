-- `closures::close` meets its contract. The loop's invariant: the steps through the nodes below k are made. Assumes nothing.
use mathlib.Core.Path.{◌≡◌}
use mathlib.Core.List.{◌++◌}
use lib.ListN.{take, drop}
use Rattle.graph.specs.Rows.{steps_to}
use Rattle.closures.proofs.close.Given as goal

abbrev pub invariant-loop-k : goal.invariant-loop-k
invariant-loop-k l = l.rows ≡ steps_to l.k (take l.m l.initial.rows) ++ drop l.m l.initial.rows
