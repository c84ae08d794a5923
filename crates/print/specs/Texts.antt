-- The text of a report, in a lent buffer. Assumes nothing.
use Rattle.std.specs.Prelude.{◌≡◌, Bool, cond, List, ℕ, ◌+◌, ◌*◌, ◌≤◌, leb, length, take}
use Rattle.numbers.specs.Lists.{both, written}
use Rattle.rules.specs.declared.Report.{Report}
use Rattle.rules.specs.declared.Entry.{Entry}
use Rattle.graph.specs.declared.Trail.{Trail}
use Rattle.texts.specs.Lines.{entry_line, circle_line}
pub use Rattle.texts.specs.Lines.{kids_in}
use Rattle.lines.specs.Buffer.{line_bytes, put_line, next, Written}
use Rattle.passes.specs.Slices.{Slices, room_of}
use Rattle.print.specs.declared.Page.{Page}

-- ---- what is promised

-- the bytes of a buffer in which there is room for the lines of n entries, the first, the root's and the circle's, however long they are:
-- the circle's has no more than five others
abbrev pub bytes_for : ℕ → ℕ
bytes_for n = line_bytes * (n + 7)

-- the slices have room for the entries, and the buffer for their lines
abbrev pub enough : Report → Slices → List ℕ → Bool
enough report σ old = both (leb report.entries (room_of σ)) (leb (bytes_for report.entries) (length old))

-- the text over the front of the buffer, and how long it is; where there is not enough, the buffer as before, and 0
pub record Printed (text : List ℕ) (ok : Bool) (old new : List ℕ) (r : ℕ) : Type 0 where
  pub buffer : new ≡ cond ok (written text old) old
  pub count : r ≡ cond ok (length text) 0

-- no circle's line has more
abbrev pub circle_bytes : ℕ
circle_bytes = line_bytes * 5

-- the line of a circle from `at` on, and the place after it, where there is room for the longest; else the buffer as before, and `at`
pub record CirclePut (circle : Trail) (at : ℕ) (old new : List ℕ) (r : ℕ) : Type 0 where
  pub buffer : new ≡ cond (leb (at + circle_bytes) (length old)) (put_line (circle_line circle) at old) old
  pub place : r ≡ cond (leb (at + circle_bytes) (length old)) (next (circle_line circle) at old) at

-- ---- on the way

-- no link of it has more: a blank, three digits and a word of four letters after a blank
abbrev pub link_bytes : ℕ
link_bytes = 9

abbrev pub entry_text : (ℕ → ℕ) → ℕ → Entry → List ℕ
entry_text n i e = entry_line i e.symbol e.production (take (n e.production) e.kids) e.graph

-- a text of at most so many bytes, behind what stands on a page, where it fits; the page keeps its buffer
pub record Placed (text : List ℕ) (most : ℕ) (old new : Page) : Type 0 where
  pub written : Written text old.at old.buf.now new.buf.now new.at
  pub short : length text ≤ most
  pub lent : new.buf.ghost_name ≡ old.buf.ghost_name
