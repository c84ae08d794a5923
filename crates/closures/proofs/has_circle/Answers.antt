-- `closures::has_circle` meets its contract. The loop's invariant: bit 0 of `seen` says whether a node below i has an edge to itself. Assumes nothing.
use mathlib.Core.Path.{◌≡◌, refl, ap, ◌∙◌}
use Prim.Native.Nat.{ℕ, ◌*◌}
use native.Mathlib.Omega.{arith}
use lib.Bits.{and_mask}
use lib.Dec.{eqb}
use lib.ListN.{length, take}
use Rattle.numbers.proofs.Parts.{take_clipped}
use Rattle.graph.specs.Rows.{circle_to, has_circle}
use Rattle.graph.proofs.Turns.{circle_more}
use Rattle.closures.proofs.has_circle.Goals as goal

pub loop-i-init : goal.loop-i-init
unfolding circle_to
loop-i-init c = refl

pub loop-i-preserved : goal.loop-i-preserved
loop-i-preserved c = circle_more c.loop-i.i c.loop-i.seen (take c.nodes-n.result c.args.rows.now) c.loop-i.invariant

pub returns : goal.returns
returns c =
    let n = c.nodes-n.result in
    let args = c.args in
    let e : c.loop-i.i ≡ length (take n args.rows.now) = omega arith in
    ap (λ (x : ℕ). eqb x 1) (and_mask c.loop-i.seen 1)
    ∙ (rw e at c.loop-i.invariant)
    ∙ ap has_circle (take_clipped (8 * args.occurrences) n args.rows.now (omega arith))
