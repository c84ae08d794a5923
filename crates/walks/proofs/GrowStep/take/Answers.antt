-- `walks::GrowStep::take` meets its contract. Assumes nothing.
use mathlib.Core.Path.{sym, ap, subst, ◌∙◌}
use mathlib.Core.Bool.{not, true≢false}
use mathlib.Core.List.{[], ◌∷◌}
use Rattle.parts.specs.Sets.{has, add}
use Rattle.walks.specs.Walk.{Added}
use Rattle.walks.proofs.Steps.{if_no, grow_there, grow_adds, added_nothing, added_one}
use Rattle.walks.proofs.GrowStep.take.Goals as goal
use Rattle.walks.proofs.GrowStep.take.Goals.{then-not-has, else-not-has}

pub returns-then-all_in : goal.returns-then-all_in
returns-then-all_in c =
    elim c.if-not-has.branch [
      | then-not-has w ↦
          let set = c.args.set.now in
          let p = c.args.production.now in
          let all = sym w.all_in.ensures ∙ sym w.value-is ∙ c.if-all_in.true in (
            c.add.ensures.0 ∙ ap (add set.words) c.left-left.ensures ∙ grow_adds set.words p all,
            subst (λ B. Added set.words B c.add.result) (sym c.add.ensures.0)
                (added_one set.words _ set.is_set (sym w.if-not-has.ensures) c.add.result c.add.ensures.1),
          )
      | else-not-has w ↦ absurd (true≢false (sym c.if-all_in.true ∙ w.value-is ∙ ap not w.if-not-has.false))
    ]

pub returns-else-all_in : goal.returns-else-all_in
returns-else-all_in c =
    let p = c.args.production.now in
    let set = c.args.set.now in (
      elim c.if-not-has.branch [
        | then-not-has w ↦ if_no set.words (p.left ∷ []) (sym w.all_in.ensures ∙ sym w.value-is ∙ c.if-all_in.false)
        | else-not-has w ↦ grow_there set.words p set.is_set (ap (has set.words) (sym c.left-left.ensures) ∙ sym w.if-not-has.ensures)
      ],
      subst (Added set.words set.words) (sym c.if-all_in.false) (added_nothing set.words),
    )
