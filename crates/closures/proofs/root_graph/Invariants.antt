-- `closures::root_graph` meets its contract. The loop's invariant: the pairs that begin in the first a attributes are there. Assumes nothing.
use mathlib.Core.Path.{◌≡◌}
use Rattle.graph.specs.Rows.{root_to}
use Rattle.closures.proofs.root_graph.Given as goal

abbrev pub invariant-loop-a : goal.invariant-loop-a
invariant-loop-a l = l.graph ≡ root_to 8 l.a l.rows
