-- By the answer. Assumes nothing.
use mathlib.Core.Path.{refl}
use native.Mathlib.Omega.{arith}
use Rattle.texts.specs.Lines.{rest}
use Rattle.print.proofs.Placing.{nothing, within, then, placed_length}
use Rattle.print.proofs.Resting.{entries_only}
use Rattle.print.proofs.Page.rest_lines.Goals as goal

pub returns-in-Refused : goal.returns-in-Refused
unfolding rest
returns-in-Refused c = rw c.in-Refused.is (within refl (omega arith) (nothing c.args.self.now (omega arith)))

pub returns-in_default-answer : goal.returns-in_default-answer
returns-in_default-answer c =
    within (entries_only _ _ _ c.in_default.not-Refused c.in_default-answer.not-Circular) (omega arith)
    (rw c.wide.ensures at c.entry_lines.ensures)

pub root_lines-requires : goal.root_lines-requires
root_lines-requires c =
    let after = placed_length (omega arith) (rw c.wide.ensures at c.entry_lines.ensures) in
    omega (arith, after.0, after.1)

pub returns-in-Circular : goal.returns-in-Circular
unfolding rest
returns-in-Circular c =
    rw c.in-Circular.is
    (within refl (omega arith) (then (omega arith) (rw c.wide.ensures at c.entry_lines.ensures) c.root_lines.ensures))
