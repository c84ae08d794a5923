-- Within the room of the slices the entry that is read is the one that stands there. Assumes nothing.
use mathlib.Core.Path.{◌≡◌}
use Prim.Native.Nat.{ℕ, ◌<◌}
use borrow.Author.Tests.{lt-ltb}
use Rattle.steps.specs.Slices.{Slices, room_of, entry_at, entry_in}

pub entry_in_lem : (σ : Slices) (i : ℕ) → i < room_of σ → entry_in σ i ≡ entry_at σ i
entry_in_lem σ i l = rw (lt-ltb i (room_of σ) l)
