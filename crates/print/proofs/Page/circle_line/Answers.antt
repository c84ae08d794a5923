-- The word, the links and the end of the line. Assumes nothing.
use mathlib.Core.Path.{refl}
use native.Mathlib.Omega.{arith}
use Rattle.texts.specs.Lines.{circle_line}
use Rattle.print.proofs.Placing.{within, then, placed_length}
use Rattle.print.proofs.Page.circle_line.Goals as goal

pub links-requires : goal.links-requires
links-requires c =
    let after = placed_length (omega arith) c.word.ensures in
    omega (arith, after.0, after.1)

pub returns : goal.returns
unfolding circle_line
returns c =
    within refl (omega arith)
    (then (omega arith) (then (omega arith) c.word.ensures c.links.ensures) c.word-2.ensures)
