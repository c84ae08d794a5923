-- Each turn has one kid more behind it. Assumes nothing.
use mathlib.Core.List.{append_assoc}
use native.Mathlib.Omega.{arith}
use Rattle.texts.proofs.Spaced.{one_more}
use Rattle.lines.proofs.Line.kids.Goals as goal

pub loop-kid-preserved : goal.loop-kid-preserved
loop-kid-preserved c =
    let more = one_more _ c.loop-kid.kid-index c.loop-kid-test.true in
    (rw (c.number.ensures.text, c.from.ensures, c.loop-kid.invariant.0, ← more) (append_assoc c.args.self.now _ _), omega arith)
