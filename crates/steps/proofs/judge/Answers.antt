-- `steps::judge` meets its contract: each answer by the tests that led to it. Assumes nothing.
use mathlib.Core.Path.{refl, sym, ap, ◌∙◌}
use mathlib.Core.Bool.{true, false}
use borrow.Author.Tests.{eq-eqb, ne_eqb}
use Rattle.steps.specs.Step.{graph_or, verdict}
use Rattle.steps.proofs.Verdicts.{judged_by}
use Rattle.steps.proofs.judge.Goals as goal

pub returns-then-left-eq0 : goal.returns-then-left-eq0
unfolding verdict
returns-then-left-eq0 c =
    let a = c.args in
    ap (graph_or _)
    (judged_by a.task a.edges.now a.entries.symbols.now a.entries.graphs.now a.left a.stored a.picked.now true _ _ _ _ _
    (eq-eqb _ _ c.if-left-eq0.true) refl refl refl refl refl)

pub returns-then-made : goal.returns-then-made
unfolding verdict
returns-then-made c =
    let a = c.args in
    let made = c.closure-made in
    ap (graph_or _)
    (judged_by a.task a.edges.now a.entries.symbols.now a.entries.graphs.now a.left a.stored a.picked.now false true _ _ _ _
    (ne_eqb _ _ c.if-left-eq0.false) (sym c.if-made.true ∙ made.ensures.0) refl refl refl refl)

pub returns-then-seen : goal.returns-then-seen
unfolding verdict
returns-then-seen c =
    let a = c.args in
    let made = c.closure-made in
    ap (graph_or _)
    (judged_by a.task a.edges.now a.entries.symbols.now a.entries.graphs.now a.left a.stored a.picked.now false false true _ made.result.graph _
    (ne_eqb _ _ c.if-left-eq0.false) (sym c.if-made.false ∙ made.ensures.0) made.ensures.1
    refl (sym c.seen.ensures ∙ c.if-seen.true) refl)

pub returns-then-stored-task : goal.returns-then-stored-task
unfolding verdict
returns-then-stored-task c =
    let a = c.args in
    let made = c.closure-made in
    ap (graph_or _)
    (judged_by a.task a.edges.now a.entries.symbols.now a.entries.graphs.now a.left a.stored a.picked.now false false false true made.result.graph _
    (ne_eqb _ _ c.if-left-eq0.false) (sym c.if-made.false ∙ made.ensures.0) made.ensures.1
    refl (sym c.seen.ensures ∙ c.if-seen.false) (eq-eqb _ _ c.if-stored-task.true))

pub returns : goal.returns
unfolding verdict
returns c =
    let a = c.args in
    let made = c.closure-made in
    rw (← made.ensures.1)
    (ap (graph_or made.result.graph)
    (judged_by a.task a.edges.now a.entries.symbols.now a.entries.graphs.now a.left a.stored a.picked.now false false false false made.result.graph _
    (ne_eqb _ _ c.if-left-eq0.false) (sym c.if-made.false ∙ made.ensures.0) made.ensures.1
    refl (sym c.seen.ensures ∙ c.if-seen.false) (ne_eqb _ _ c.if-stored-task.false)))
