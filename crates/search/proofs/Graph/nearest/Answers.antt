-- `search::Graph::nearest` meets its contract. The loop's invariant: what is found is of the nodes below `start`. Assumes nothing.
use Rattle.graph.specs.Search.{nearest_to}
use Rattle.graph.proofs.Searching.{nearest_without, nearest_now, nearest_still}
use native.Mathlib.Omega.{arith}
use borrow.Author.Rules.{rules}
use Rattle.search.proofs.Graph.nearest.Goals as goal
use Rattle.search.proofs.Graph.nearest.Goals.{then-is_none_or, else-is_none_or}

pub loop-start-init : goal.loop-start-init
unfolding nearest_to
loop-start-init c = omega arith

pub loop-start-preserved-in_default : goal.loop-start-preserved-in_default
loop-start-preserved-in_default c =
    nearest_without c.args.self.now.rows.now c.loop-start.start c.loop-start.nearest c.loop-start.invariant c.in_default.ensures

pub loop-start-preserved : goal.loop-start-preserved
loop-start-preserved c =
    let rows = c.args.self.now.rows.now in
    let s = c.loop-start.start in
    let found = c.in-Some.ensures in
    elim c.if-is_none_or.branch [
      | then-is_none_or w ↦
          rw w.nearest-is (nearest_now rows s found.0 found.1 c.loop-start.nearest c.loop-start.invariant c.is_none_or.ensures (λ b q. search rules) w.if-is_none_or.true)
      | else-is_none_or w ↦
          rw w.nearest-is (nearest_still rows s found.0 found.1 c.loop-start.nearest c.loop-start.invariant c.is_none_or.ensures (λ b q. search rules) w.if-is_none_or.false)
    ]
