-- `passes::Plan::circle_said` meets its contract. Assumes nothing.
use mathlib.Core.Path.{sym, ap, ◌∙◌}
use Prim.Native.Nat.{ℕ}
use native.Mathlib.Omega.{arith}
use Rattle.circles.specs.Ring.{ring_in}
use Rattle.passes.specs.Follow.{circle_over}
use Rattle.passes.proofs.Circles.{none_said, one_said}
use Rattle.passes.proofs.Plan.circle_said.Goals as goal

pub returns-in-Circular : goal.returns-in-Circular
returns-in-Circular c =
    let bs = c.args.self.now.table.now in
    c.circle_of.ensures
    ∙ ap (λ (p : ℕ). ring_in bs c.args.graphs.now p c.args.root) c.wide.ensures
    ∙ one_said bs c.args.self.now.taken c.args.graphs.now c.args.root _ (omega arith)
    ∙ ap (circle_over bs c.args.graphs.now c.args.root) (sym c.in-Circular.is)

pub returns-in_default : goal.returns-in_default
returns-in_default c =
    let a = c.args in
    c.no_trail.ensures ∙ none_said a.self.now.table.now a.graphs.now a.root a.answer c.in_default.not-Circular
