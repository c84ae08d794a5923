-- `search::Graph::sources` meets its contract. The loop's invariant: the set has the nodes below i. Assumes nothing.
use mathlib.Core.Path.{◌≡◌, refl, ◌∙◌}
use Prim.Native.Nat.{◌^◌}
use native.Mathlib.Omega.{arith}
use lib.Bits.{bit_and}
use lib.ListN.{length, get_or}
use Rattle.numbers.proofs.Bits.{power_fits}
use Rattle.graph.specs.Search.{into}
use Rattle.graph.proofs.Searching.{joined, not_joined, into_more}
use Rattle.search.proofs.Graph.sources.Goals as goal
use Rattle.search.proofs.Graph.sources.Goals.{then-row-set-ne0, else-row-set-ne0}

pub loop-i-init : goal.loop-i-init
unfolding into
loop-i-init c = refl

pub loop-i-preserved : goal.loop-i-preserved
loop-i-preserved c =
    let rows = c.args.self.now.rows.now in
    let i = c.loop-i.i in
    let common = bit_and (get_or rows i 0) c.args.set in
    into_more rows i c.args.set c.loop-i.invariant
    (elim c.if-row-set-ne0.branch [
      | then-row-set-ne0 w ↦ w.found-is ∙ joined common (2 ^ i) c.loop-i.found (omega arith) (power_fits 64 i (omega arith))
      | else-row-set-ne0 w ↦ w.found-is ∙ not_joined common (2 ^ i) c.loop-i.found (omega arith)
    ])

pub returns : goal.returns
returns c =
    let e : c.loop-i.i ≡ length c.args.self.now.rows.now = omega arith in
    rw e at c.loop-i.invariant
