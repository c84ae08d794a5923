-- By whether the word fits. Assumes nothing.
use native.Mathlib.Omega.{arith}
use Rattle.lines.proofs.Putting.{too_long, fitting, put_at}
use Rattle.lines.proofs.put_word.Goals as goal
use Rattle.lines.proofs.put_word.Goals.{then-buf-len-via-then-buf-len, then-buf-len-via-else-buf-len+then-buf-len-2}

pub returns-then-buf-len : goal.returns-then-buf-len
returns-then-buf-len c =
    too_long _ _ _ (elim c.then-buf-len.branch [ then-buf-len-via-then-buf-len w ↦ omega arith | then-buf-len-via-else-buf-len+then-buf-len-2 w ↦ omega arith ])

pub returns : goal.returns
returns c = fitting _ _ _ (omega arith) (put_at _ _ _ (omega arith) c.copy_from_slice.ensures.after) (omega arith)
