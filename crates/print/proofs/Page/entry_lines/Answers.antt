-- Each turn has one entry's line more behind it. Assumes nothing.
use native.Mathlib.Omega.{arith}
use Rattle.texts.specs.Lines.{entry_lines}
use Rattle.steps.specs.Lent.{read}
use Rattle.passes.specs.Slices.{entries_to}
use Rattle.print.specs.Texts.{kids_in}
use Rattle.print.proofs.Placing.{nothing, within, then, one_more}
use Rattle.print.proofs.Page.entry_lines.Goals as goal

pub loop-i-init : goal.loop-i-init
unfolding entry_lines entries_to
loop-i-init c = nothing c.args.self.now (omega arith)

pub loop-i-preserved : goal.loop-i-preserved
loop-i-preserved c =
    within (one_more (kids_in c.args.table.now) (read c.args.entries) c.loop-i.i) (omega arith)
    (then (omega arith) c.loop-i.invariant c.entry_line.ensures)
