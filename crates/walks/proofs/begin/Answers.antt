-- `walks::begin` meets its contract. Assumes nothing.
use mathlib.Core.Path.{sym, ap, ◌∙◌}
use mathlib.Core.List.{[], ◌∷◌}
use Rattle.parts.specs.Sets.{none, add, add_all}
use Rattle.parts.specs.Rule.{begun}
use Rattle.walks.proofs.Steps.{if_yes, if_no}
use Rattle.walks.proofs.begin.Goals as goal

pub returns-then-has : goal.returns-then-has
unfolding begun add_all
returns-then-has c =
    let a = c.args in
    c.add.ensures.0 ∙ ap (λ A. add A a.start) c.empty-set.ensures ∙ if_yes none (a.start ∷ []) (sym c.has.ensures ∙ c.if-has.true)

pub returns-else-has : goal.returns-else-has
unfolding begun
returns-else-has c =
    let a = c.args in
    c.empty-set.ensures ∙ if_no none (a.start ∷ []) (sym c.has.ensures ∙ c.if-has.false)
