-- `search::Graph::written` meets its contract. The loop's invariant: i nodes after x are written, with the marks of the links to them. Assumes nothing.
use Prim.Native.Nat.{◌<◌}
use lib.ListN.{length}
use Rattle.graph.proofs.Searching.{Writing}
use Rattle.search.proofs.Graph.written.Given as goal

abbrev pub invariant-loop-i : goal.invariant-loop-i
invariant-loop-i l =
    (l.z < length l.self.rows.now) × Writing 8 l.self.masks.now 64 l.self.rows.now l.x l.y l.k l.i l.z l.trail.nodes l.trail.marks
