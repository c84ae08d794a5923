-- `closures::close` meets its contract. The loop's invariant: the steps through the nodes below k are made. Assumes nothing.
use mathlib.Core.Path.{◌≡◌, sym, ap, ◌∙◌}
use mathlib.Core.List.{List, ◌++◌}
use Prim.Native.Nat.{ℕ, ◌*◌, ◌/◌, ◌^◌}
use native.Mathlib.Omega.{arith}
use lib.Bits.{and_mask}
use lib.ListN.{take, drop, take-append-drop}
use lib.Seq.{length-take-le, take-length}
use Rattle.numbers.specs.Number.{bit}
use Rattle.graph.specs.Rows.{steps_to}
use Rattle.graph.proofs.Turns.{targets_none, step_made, step_from_none, step_to_none, closed_clipped}
use Rattle.closures.proofs.close.Goals as goal
use Rattle.closures.proofs.close.Goals.{then-via-ne0+then-all-k-eq1, else-via-ne0, else-via-ne0-via-then-via-ne0+else-all-k-eq1, else-via-ne0-via-else-via-ne0}

pub loop-k-init : goal.loop-k-init
unfolding steps_to
loop-k-init c = sym (take-append-drop c.nodes-m.result _)

pub loop-k-preserved : goal.loop-k-preserved
loop-k-preserved c =
    let rows = c.args.rows.now in
    let m = c.nodes-m.result in
    let k = c.loop-k.k in
    let inv = c.loop-k.invariant in
    let front = length-take-le m rows (omega arith) in
    let all = ap (bit k) (sym c.targets-all.ensures) in
    elim c.if-via-ne0.branch [
      | then-via-ne0+then-all-k-eq1 w ↦
          step_made k m (take m rows) (drop m rows) front inv (omega arith)
          (w.rows-is ∙ ap (λ (rows : List ℕ). rows ++ drop m c.loop-k.rows) w.step_through.ensures)
      | else-via-ne0 w ↦
          w.rows-is
          ∙ elim w.else-via-ne0.branch [
            | else-via-ne0-via-then-via-ne0+else-all-k-eq1 v ↦
                step_to_none k m (take m rows) (drop m rows) front inv
                (rw take-length at (targets_none k _ (take m rows) (all ∙ omega (arith, and_mask (c.targets-all.result / 2 ^ k) 1, v.if-all-k-eq1.false))))
            | else-via-ne0-via-else-via-ne0 v ↦
                step_from_none k m (take m rows) (drop m rows) front inv (omega arith) v.if-via-ne0.false
          ]
    ]

pub returns : goal.returns
returns c =
    let m = c.nodes-m.result in
    let e : c.loop-k.k ≡ m = omega arith in
    (rw e at c.loop-k.invariant) ∙ closed_clipped (8 * c.args.occurrences) m c.args.rows.now (omega arith)
