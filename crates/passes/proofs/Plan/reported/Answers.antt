-- `passes::Plan::reported` meets its contract. Assumes nothing.
use mathlib.Core.Path.{ap, ◌∙◌}
use Prim.Native.Nat.{ℕ}
use lib.ListN.{take}
use Rattle.rules.specs.Test.{report_with}
use Rattle.passes.specs.Follow.{unsaid, circle_over}
use Rattle.passes.proofs.Plan.reported.Goals as goal

pub returns : goal.returns
returns c =
    let r = unsaid c.args.ending in
    ap (λ t. report_with t r)
    (c.circle_said-circle.ensures
    ∙ ap (λ (n : ℕ). circle_over c.args.self.now.table.now (take n c.args.graphs.now) r.root r.answer) c.wide.ensures)
