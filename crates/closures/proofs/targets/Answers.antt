-- `closures::targets` meets its contract. The loop's invariant: the targets of the first rows are there. Assumes nothing.
use mathlib.Core.Path.{◌≡◌, refl}
use native.Mathlib.Omega.{arith}
use lib.ListN.{length}
use Rattle.graph.specs.Parts.{targets_to}
use Rattle.graph.proofs.Turns.{targets_more}
use Rattle.closures.proofs.targets.Goals as goal

pub loop-row-init : goal.loop-row-init
unfolding targets_to
loop-row-init c = refl

pub loop-row-preserved : goal.loop-row-preserved
loop-row-preserved c = targets_more c.loop-row.row-index c.loop-row.all c.args.rows.now c.loop-row.invariant

pub returns : goal.returns
returns c =
    let e : c.loop-row.row-index ≡ length c.args.rows.now = omega arith in
    rw e at c.loop-row.invariant
