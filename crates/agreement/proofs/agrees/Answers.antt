-- `agreement::agrees` meets its promise. Assumes nothing.
use mathlib.Core.Path.{sym, ◌∙◌}
use mathlib.Core.Bool.{true≢false}
use Rattle.agreement.proofs.Exactly.{same_report}
use Rattle.agreement.proofs.Agreeing.{agrees}
use Rattle.steps.specs.Lent.{read}
use Rattle.agreement.specs.Agreement.{row_of}
use Rattle.agreement.proofs.agrees.Goals as goal

pub returns-then-eq : goal.returns-then-eq
unfolding row_of
returns-then-eq c =
    let a = c.args in
    let told = agrees a.table.now a.limit a.room _ (read a.entries) _ _ _ c.min-most.ensures c.blank-e.ensures c.test-given.ensures a.report in
    let same = (same_report _ _ _ c.eq.ensures).0 c.if-eq.true in
    (λ h. told.0 (same, c.alike.ensures.0 h), λ t. c.alike.ensures.1 (told.1 t).1)

pub returns-else-eq : goal.returns-else-eq
unfolding row_of
returns-else-eq c =
    let a = c.args in
    let told = agrees a.table.now a.limit a.room _ (read a.entries) _ _ _ c.min-most.ensures c.blank-e.ensures c.test-given.ensures a.report in
    let same = same_report _ _ _ c.eq.ensures in
    (λ h. absurd (true≢false (sym h ∙ c.if-eq.false)), λ t. same.1 (told.1 t).0)
