-- By the length of a repeated array: counting it takes more than the checker's stack. Assumes nothing.
use mathlib.Core.Path.{sym}
use Prim.Native.Nat.{ℕ}
use lib.ListN.{length-replicate}
use Rattle.vectors.proofs.text_buffer.Goals as goal

pub returns : goal.returns
returns c = sym (length-replicate {A = ℕ} 525184 0)
