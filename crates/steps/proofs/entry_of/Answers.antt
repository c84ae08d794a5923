-- `steps::entry_of` meets its contract. Assumes nothing.
use native.Mathlib.Omega.{arith}
use Rattle.steps.specs.Slices.{slices, entry_at}
use Rattle.steps.proofs.Held.{entry_held}
use Rattle.steps.proofs.entry_of.Goals as goal

pub returns : goal.returns
unfolding entry_at
returns c =
    let a = c.args in
    rw (entry_held (slices a.symbols.now a.graphs.now a.productions.now a.kids.now) a.i (omega (arith, c.room_of.ensures, c.if-room_of-i.false)))
    (cc c.copy_from_slice.ensures.after)
