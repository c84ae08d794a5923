-- `walks::SpreadStep::take` meets its contract. Assumes nothing.
use mathlib.Core.Path.{sym, ap, subst, ◌∙◌}
use mathlib.Core.Bool.{true, true≢false}
use Rattle.grammar.specs.Grammar.{rights}
use Rattle.parts.specs.Sets.{has}
use Rattle.walks.specs.Walk.{Added}
use Rattle.walks.proofs.Steps.{negated, spread_there, spread_left, spread_no, spread_adds, added_nothing, added_some}
use Rattle.walks.proofs.SpreadStep.take.Goals as goal
use Rattle.walks.proofs.SpreadStep.take.Goals.{then-has, else-has, then-not-all_in, else-not-all_in}

pub returns-then-adds : goal.returns-then-adds
returns-then-adds c =
    let set = c.args.set.now in
    let p = c.args.production.now in
    let T = c.args.self.now.trees.now in
    elim c.if-not-all_in.branch [
      | then-not-all_in w ↦
          let all = sym w.all_in-adds.ensures ∙ sym w.adds-is ∙ c.if-adds.true in
          elim c.if-has.branch [
            | then-has v ↦ (
              c.add_to.ensures ∙ spread_adds set.words p T.words (ap (has set.words) (sym c.left.ensures) ∙ sym v.if-has.ensures) all,
              subst (Added set.words c.add_to.new.set.words) (sym c.if-adds.true)
                  (subst (λ B. Added set.words B true) (sym c.add_to.ensures)
                  (added_some T.words set.words (rights p) T.is_set.four set.is_set all
                  (sym v.all_in.ensures ∙ negated (sym v.value-is ∙ w.if-not-all_in.true)))),
            )
            | else-has v ↦ absurd (true≢false (sym w.if-not-all_in.true ∙ v.value-is ∙ v.if-has.false))
          ]
      | else-not-all_in w ↦ absurd (true≢false (sym c.if-adds.true ∙ w.adds-is ∙ w.if-not-all_in.false))
    ]

pub returns-else-adds : goal.returns-else-adds
returns-else-adds c =
    let set = c.args.set.now in
    let p = c.args.production.now in
    let T = c.args.self.now.trees.now in (
      elim c.if-not-all_in.branch [
        | then-not-all_in w ↦ spread_no set.words p T.words (sym w.all_in-adds.ensures ∙ sym w.adds-is ∙ c.if-adds.false)
        | else-not-all_in w ↦
            elim c.if-has.branch [
              | then-has v ↦
                  spread_there set.words p T.words set.is_set
                  (sym v.all_in.ensures ∙ negated (sym v.value-is ∙ w.if-not-all_in.false))
              | else-has v ↦ spread_left set.words p T.words (ap (has set.words) (sym c.left.ensures) ∙ sym v.if-has.ensures)
            ]
      ],
      subst (Added set.words set.words) (sym c.if-adds.false) (added_nothing set.words),
    )
