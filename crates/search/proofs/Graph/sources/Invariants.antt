-- `search::Graph::sources` meets its contract. The loop's invariant: the set has the nodes below i. Assumes nothing.
use mathlib.Core.Path.{◌≡◌}
use Rattle.graph.specs.Search.{into}
use Rattle.search.proofs.Graph.sources.Given as goal

abbrev pub invariant-loop-i : goal.invariant-loop-i
invariant-loop-i l = l.found ≡ into l.i l.self.rows.now l.set
