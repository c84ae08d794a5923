-- `search::Graph::between` meets its contract. The loop's invariant: the set has the nodes from which k links lead to y, and what is left to search gives what the whole gives. Assumes nothing.
use mathlib.Core.Path.{◌≡◌}
use Rattle.graph.specs.Search.{level}
use Rattle.graph.proofs.Searching.{BetweenFrom}
use Rattle.search.proofs.Graph.between.Given as goal

abbrev pub invariant-loop-k : goal.invariant-loop-k
invariant-loop-k l = (l.set ≡ level l.self.rows.now l.y l.k) × BetweenFrom l.self.rows.now l.x l.y l.k
