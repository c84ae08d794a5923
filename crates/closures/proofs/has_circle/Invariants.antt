-- `closures::has_circle` meets its contract. The loop's invariant: bit 0 of `seen` says whether a node below i has an edge to itself. Assumes nothing.
use mathlib.Core.Path.{◌≡◌}
use Prim.Native.Nat.{◌%◌}
use lib.Dec.{eqb}
use Rattle.graph.specs.Rows.{circle_to}
use Rattle.closures.proofs.has_circle.Given as goal

abbrev pub invariant-loop-i : goal.invariant-loop-i
invariant-loop-i l = eqb (l.seen % 2) 1 ≡ circle_to l.i l.row-items
