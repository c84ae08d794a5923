-- `search::Graph::reaching` meets its contract. The loop's invariant: the set has the nodes from which d links lead to y. Assumes nothing.
use mathlib.Core.Path.{◌≡◌}
use native.Mathlib.Omega.{arith}
use Rattle.numbers.proofs.Bits.{power_fits}
use Rattle.graph.specs.Search.{level}
use Rattle.graph.proofs.Searching.{level_more}
use Rattle.search.proofs.Graph.reaching.Goals as goal

pub loop-d-init : goal.loop-d-init
unfolding level
loop-d-init c = power_fits 64 c.args.y (omega arith)

pub loop-d-preserved : goal.loop-d-preserved
loop-d-preserved c = level_more c.args.self.now.rows.now c.args.y c.loop-d.d c.loop-d.invariant c.sources-set.ensures

pub returns : goal.returns
returns c =
    let e : c.loop-d.d ≡ c.args.k = omega arith in
    rw e at c.loop-d.invariant
