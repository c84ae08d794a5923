-- `agreement::alike` meets its promise. The invariant: each record before the place is as told. Assumes nothing.
use Prim.Native.Nat.{ℕ, ◌<◌}
use Rattle.steps.specs.Lent.{read}
use Rattle.agreement.specs.Agreement.{AlikeAt}
use Rattle.agreement.proofs.alike.Given as goal

abbrev pub invariant-loop-at : goal.invariant-loop-at
invariant-loop-at l = (j : ℕ) → j < l.at → AlikeAt (read l.entries) l.stored l.row j
