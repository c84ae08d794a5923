-- `steps::try_one` meets its contract. Assumes nothing.
use mathlib.Core.Path.{refl, sym, ap, ◌∙◌, subst}
use Prim.Native.Nat.{ℕ}
use Rattle.steps.specs.declared.Verdict.TheVariants.{New}
use Rattle.steps.specs.Slices.{Slices, put_in}
use Rattle.steps.specs.Step.{stores, entry_of, Judges}
use Rattle.steps.specs.Lent.{held}
use Rattle.steps.proofs.Verdicts.{slices_new, slices_same, graph_given, verdict_given}
use Rattle.steps.proofs.try_one.Goals as goal

pub returns-in-Err-clause-tried : goal.returns-in-Err-clause-tried
returns-in-Err-clause-tried c =
    let a = c.args in
    let j : Judges a.task a.edges.now (held a.store.now) a.run.left a.run.stored a.picked.now c.judge.result =
    subst (λ (τ : Slices). Judges a.task a.edges.now τ a.run.left a.run.stored a.picked.now c.judge.result) c.entries.ensures c.judge.ensures in
    let g = verdict_given _ (sym c.in-Err.is ∙ j) in
    record { verdict_is = g.0; slices = slices_same a.task _ a.picked.now a.run.stored _ _ (ap stores g.0 ∙ g.1) }

pub returns-in-Ok-clause-tried : goal.returns-in-Ok-clause-tried
returns-in-Ok-clause-tried c =
    let a = c.args in
    let σ = held a.store.now in
    let j : Judges a.task a.edges.now σ a.run.left a.run.stored a.picked.now c.judge.result =
    subst (λ (τ : Slices). Judges a.task a.edges.now τ a.run.left a.run.stored a.picked.now c.judge.result) c.entries.ensures c.judge.ensures in
    let g = graph_given _ (sym c.in-Ok.is ∙ j) in
    record {
      verdict_is = g.0;
      slices =
          c.put.ensures.put
          ∙ ap (λ (g : ℕ). put_in σ a.run.stored (entry_of a.task g a.picked.now)) g.1
          ∙ slices_new a.task _ a.picked.now a.run.stored σ New refl;
    }
