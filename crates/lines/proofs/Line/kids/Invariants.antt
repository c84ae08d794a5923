-- The invariant: so many kids stand behind the word. Assumes nothing.
use mathlib.Core.Path.{◌≡◌}
use mathlib.Core.List.{◌++◌}
use Prim.Native.Nat.{◌+◌, ◌*◌, ◌≤◌}
use lib.ListN.{length, take}
use Rattle.texts.specs.Lines.{kids_text}
use Rattle.lines.proofs.Line.kids.Given as goal

abbrev pub invariant-loop-kid : goal.invariant-loop-kid
invariant-loop-kid l =
    (l.self ≡ l.fn.self ++ kids_text (take l.kid-index l.kid-items)) × (length l.self ≤ length l.fn.self + 5 + 21 * l.kid-index)
