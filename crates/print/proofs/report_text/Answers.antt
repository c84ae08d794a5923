-- The first line, then the rest. Assumes nothing.
use mathlib.Core.Path.{refl, sym, ◌∙◌}
use native.Mathlib.Omega.{arith}
use borrow.Author.Rules.{rules}
use Rattle.texts.specs.Lines.{printed}
use Rattle.steps.specs.Lent.{read}
use Rattle.print.proofs.Placing.{then, placed_length, roomy, not_printed, is_printed}
use Rattle.print.proofs.report_text.Goals as goal

pub returns-then-not-is_enough : goal.returns-then-not-is_enough
returns-then-not-is_enough c = not_printed (rw (c.wide.ensures, c.room.ensures) at (sym c.is_enough.ensures ∙ c.if-not-is_enough.true))

pub rest_lines-requires : goal.rest_lines-requires
rest_lines-requires c =
    let yes = rw (c.wide.ensures, c.room.ensures) at (sym c.is_enough.ensures ∙ c.if-not-is_enough.false) in
    let h = roomy c.args.report (read c.args.entries) c.args.buf.now yes in
    let after = placed_length (omega (arith, h.1)) c.first_line.ensures in
    (h.0, omega (arith, h.1, after.0, after.1))

pub returns : goal.returns
unfolding printed
returns c =
    let yes = rw (c.wide.ensures, c.room.ensures) at (sym c.is_enough.ensures ∙ c.if-not-is_enough.false) in
    let h = roomy c.args.report (read c.args.entries) c.args.buf.now yes in
    let all = then (omega (arith, h.1)) c.first_line.ensures c.rest_lines.ensures in
    is_printed yes refl (omega (arith, h.1)) all (search rules)
