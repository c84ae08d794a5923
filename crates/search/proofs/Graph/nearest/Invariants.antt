-- `search::Graph::nearest` meets its contract. The loop's invariant: what is found is of the nodes below `start`. Assumes nothing.
use Rattle.graph.proofs.Searching.{NearestBelow}
use Rattle.search.proofs.Graph.nearest.Given as goal

abbrev pub invariant-loop-start : goal.invariant-loop-start
invariant-loop-start l = NearestBelow l.self.rows.now l.start l.nearest
