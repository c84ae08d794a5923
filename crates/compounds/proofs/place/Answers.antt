-- `compounds::place` meets its contract. The loop's invariant: the pairs that begin in the first a attributes are placed. Assumes nothing.
use mathlib.Core.Path.{◌≡◌, refl, sym}
use Prim.Native.Nat.{◌*◌, ◌/◌, ◌^◌}
use native.Mathlib.Omega.{arith}
use Rattle.numbers.proofs.Bits.{block_fits}
use Rattle.graph.specs.Rows.{placed_to}
use Rattle.graph.proofs.Turns.{placed_more, placed_out}
use Rattle.compounds.proofs.place.Goals as goal

pub returns-then-occurrence-gt-SLOTS : goal.returns-then-occurrence-gt-SLOTS
returns-then-occurrence-gt-SLOTS c =
    let args = c.args in
    sym (placed_out 8 args.occurrence args.graph 8 args.rows.now (omega arith))

pub loop-a-init : goal.loop-a-init
unfolding placed_to
loop-a-init c = refl

pub loop-a-preserved : goal.loop-a-preserved
loop-a-preserved c =
    let args = c.args in
    placed_more 8 args.occurrence args.graph c.loop-a.a args.rows.now c.loop-a.invariant
    (block_fits 64 8 (8 * args.occurrence) (args.graph / 2 ^ (8 * c.loop-a.a)) (omega arith))

pub returns : goal.returns
returns c =
    let e : c.loop-a.a ≡ 8 = omega arith in
    rw e at c.loop-a.invariant
