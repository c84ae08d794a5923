-- What `circ` prints of a table, and what it has read. Assumes nothing.
use Rattle.std.specs.Prelude.{◌≡◌, List, ℕ, ◌≤◌, ◌<◌, length, take, Option, None, Some, Result, Ok, Err}
use Rattle.std.specs.Io.KnownBytes.{Consumes, IsAtEnd, Appends, Keeps}
use Rattle.numbers.specs.Lists.{written}
use Rattle.rules.specs.Test.{test}
use Rattle.texts.specs.Lines.{printed}
use Rattle.print.specs.Texts.{kids_in}
use Rattle.circ.specs.declared.Failure.{Failure}
use Rattle.circ.specs.declared.Failure.TheVariants.{Unread, Unwritten}

-- at most so many closures, and room for so many entries
abbrev pub limit : ℕ
limit = 1000000

abbrev pub room : ℕ
room = 1024

-- one byte more than the longest table has: what stands behind that changes no answer
abbrev pub table_bytes : ℕ
table_bytes = 58905

unfoldable pub circ_text : List ℕ → List ℕ
circ_text bs = printed (kids_in bs) (test bs limit room)

-- the report over the front of the buffer, and how long it is
pub record Reported (bs old new : List ℕ) (r : ℕ) : Type 0 where
  pub text : new ≡ written (circ_text bs) old
  pub count : r ≡ length (circ_text bs)

-- no more bytes are read than the buffer has
abbrev pub NoMoreThan : Result ℕ Failure → List ℕ → Type 0
NoMoreThan (Ok n) buf = n ≤ length buf
NoMoreThan (Err e) buf = Unit {0}

-- where it is known what a reader has left: what was read stood at its front, and is all of it where the buffer has room for more; else a
-- read failed
abbrev pub Taken : Option (List ℕ) → Option (List ℕ) → Result ℕ Failure → List ℕ → Type 0
Taken old new (Ok n) buf = Consumes old new (take n buf) × (n < length buf → IsAtEnd new)
Taken old new (Err e) buf = e ≡ Unread

-- where it is known what a reader has left and what a writer holds: the report of all that is left is written, or nothing where a read
-- failed
abbrev pub Answered : Option (List ℕ) → Option (List ℕ) → Option (List ℕ) → Result (Unit {0}) Failure → Type 0
Answered (Some input) old new (Ok _) = Appends old new (circ_text input)
Answered None old new (Ok _) = Unit {0}
Answered input old new (Err Unread) = Keeps old new
Answered input old new (Err Unwritten) = Unit {0}
