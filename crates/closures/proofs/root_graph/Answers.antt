-- `closures::root_graph` meets its contract. The loop's invariant: the pairs that begin in the first a attributes are there. Assumes nothing.
use mathlib.Core.Path.{◌≡◌, refl}
use Prim.Native.Nat.{◌*◌}
use native.Mathlib.Omega.{arith}
use lib.ListN.{get_or}
use lib.Seq.{get_or-take}
use Rattle.numbers.proofs.Bits.{block_fits}
use Rattle.graph.specs.Rows.{root_to}
use Rattle.graph.proofs.Turns.{root_more}
use Rattle.closures.proofs.root_graph.Goals as goal

pub loop-a-init : goal.loop-a-init
unfolding root_to
loop-a-init c = refl

pub loop-a-preserved : goal.loop-a-preserved
loop-a-preserved c =
    let rows = c.args.rows.now in
    let a = c.loop-a.a in
    rw (get_or-take 8 rows a 0 (omega arith))
    (root_more 8 a rows c.loop-a.invariant (block_fits 64 8 (8 * a) (get_or rows a 0) (omega arith)))

pub returns : goal.returns
returns c =
    let e : c.loop-a.a ≡ 8 = omega arith in
    rw e at c.loop-a.invariant
