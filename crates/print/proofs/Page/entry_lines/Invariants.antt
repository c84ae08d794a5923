-- Each turn has one entry's line more behind it. Assumes nothing.
use Prim.Native.Nat.{◌*◌}
use Rattle.lines.specs.Buffer.{line_bytes}
use Rattle.texts.specs.Lines.{entry_lines}
use Rattle.steps.specs.Lent.{read}
use Rattle.passes.specs.Slices.{entries_to}
use Rattle.print.specs.Texts.{kids_in, Placed}
use Rattle.print.proofs.Page.entry_lines.Given as goal

abbrev pub invariant-loop-i : goal.invariant-loop-i
invariant-loop-i l = Placed (entry_lines (kids_in l.table) 0 (entries_to (read l.entries) l.i)) (line_bytes * l.i) l.initial.self l.self
