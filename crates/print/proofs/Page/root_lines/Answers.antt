-- The root's line, then the circle's. Assumes nothing.
use mathlib.Core.Path.{refl}
use native.Mathlib.Omega.{arith}
use Rattle.print.proofs.Placing.{within, then, placed_length}
use Rattle.print.proofs.Page.root_lines.Goals as goal

pub circle_line-requires : goal.circle_line-requires
circle_line-requires c =
    let after = placed_length (omega arith) c.root_line.ensures in
    omega (arith, after.0, after.1)

pub returns : goal.returns
returns c =
    within refl (omega arith) (then (omega arith) c.root_line.ensures c.circle_line.ensures)
