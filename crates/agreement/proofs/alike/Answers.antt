-- `agreement::alike` meets its promise. Assumes nothing.
use borrow.Author.Count.{below_more}
use Rattle.agreement.proofs.alike.Goals as goal

pub loop-at-preserved : goal.loop-at-preserved
loop-at-preserved c = below_more _ _ c.loop-at.invariant (c.as_told.ensures.0 c.if-not-as_told.false)
