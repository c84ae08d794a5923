-- `search::Graph::reaching` meets its contract. The loop's invariant: the set has the nodes from which d links lead to y. Assumes nothing.
use mathlib.Core.Path.{◌≡◌}
use Rattle.graph.specs.Search.{level}
use Rattle.search.proofs.Graph.reaching.Given as goal

abbrev pub invariant-loop-d : goal.invariant-loop-d
invariant-loop-d l = l.set ≡ level l.self.rows.now l.y l.d
