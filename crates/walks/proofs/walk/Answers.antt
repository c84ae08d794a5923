-- `walks::walk` meets its contract. The loop's invariant: the walk over the productions that are left gives what the whole walk gives.
-- Assumes nothing.
use mathlib.Core.Path.{◌≡◌, sym, ap, subst, ◌∙◌}
use mathlib.Core.Bool.{cond}
use Prim.Native.Nat.{◌-◌, ◌<◌}
use native.Mathlib.Omega.{arith}
use Rattle.grammar.proofs.Lookups.{production_in_part}
use Rattle.parts.proofs.Walks.{step}
use Rattle.walks.specs.Walk.{Added}
use Rattle.walks.proofs.Steps.{added_more, added_same}
use Rattle.walks.proofs.Orders.{walk_next, walk_done}
use Rattle.walks.proofs.walk.Goals as goal
use Rattle.walks.proofs.walk.Goals.{then-up, else-up, then-take, else-take}

pub loop-i-preserved : goal.loop-i-preserved
loop-i-preserved g c =
    let a = c.args in
    let inv = c.loop-i.invariant in
    let i = c.loop-i.i in
    let n = c.from-n.result in
    let number = c.if-up.number in
    let f = step (g.S.Step.test a.step.now) (g.S.Step.targets a.step.now) in
    let at : (number ≡ cond a.up i (n - 1 - i)) × (number < n) =
    elim c.if-up.branch [
      | then-up w ↦ (rw w.if-up.true w.number-is, omega (arith, w.number-is, c.loop-i-test.true))
      | else-up w ↦ (rw w.if-up.false w.number-is, omega (arith, w.number-is, c.loop-i-test.true))
    ] in (
      inv.0,
      inv.1,
      walk_next f a.table.now a.up i c.loop-i.set.words c.take.new.set.words n _ number c.loop-i-test.true inv.0 inv.1 at
          (c.take.ensures.0 ∙ ap (f c.loop-i.set.words) (production_in_part a.table.now _ _ 0 _ (omega arith) (omega arith)))
          ∙ inv.2,
      elim c.if-take.branch [
        | then-take w ↦
            subst (Added a.set.now.words c.take.new.set.words) (sym w.more-is)
            (added_more inv.3 (subst (Added c.loop-i.set.words c.take.new.set.words) w.if-take.true c.take.ensures.1))
        | else-take w ↦
            subst (Added a.set.now.words c.take.new.set.words) (sym w.more-is)
            (added_same inv.3 (subst (Added c.loop-i.set.words c.take.new.set.words) w.if-take.false c.take.ensures.1))
      ],
    )

pub returns : goal.returns
returns g c =
    let a = c.args in
    let inv = c.loop-i.invariant in
    let f = step (g.S.Step.test a.step.now) (g.S.Step.targets a.step.now) in (
      sym (walk_done f a.table.now a.up c.loop-i.i c.loop-i.set.words _ inv.0 c.loop-i-test.false) ∙ inv.2,
      inv.3,
    )
