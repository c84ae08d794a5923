-- `flats::trail_in` meets its contract. The invariant: the number of nodes, and the first i nodes and marks, stand in their places. Assumes
-- nothing.
use Rattle.flats.specs.Flat.{Begun}
use Rattle.flats.proofs.trail_in.Given as goal

abbrev pub invariant-loop-i : goal.invariant-loop-i
invariant-loop-i l = Begun l.trail.nodes l.trail.marks l.trail.len l.i l.out
