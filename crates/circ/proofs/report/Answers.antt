-- The room is that of the four arrays, and the buffer has enough for it. Assumes nothing.
use mathlib.Core.Path.{◌≡◌, refl}
use mathlib.Core.List.{List}
use Prim.Native.Nat.{ℕ, ◌≤◌}
use lib.ListN.{length}
use Rattle.print.specs.Texts.{bytes_for}
use Rattle.answers.specs.Answered.{TestPrinted}
use Rattle.passes.specs.Slices.{Slices, room_of}
use Rattle.answers.proofs.Stored.{always_printed}
use Rattle.circ.specs.Whole.{limit, room, circ_text, Reported}
use Rattle.circ.proofs.report.Goals as goal

stored : {bs old new : List ℕ} {lent after : Slices} {r : ℕ} → room_of lent ≡ room → bytes_for room ≤ length old
    → TestPrinted bs limit lent after old new r → Reported bs old new r
unfolding circ_text
stored {bs} {lent = lent} is enough printed =
    let w = rw is at (always_printed bs limit lent _ _ _ _ (rw is enough) printed) in
    record { text = w.0; count = w.1 }

pub returns : goal.returns
returns c = stored refl c.requires c.test_text.ensures.printed
