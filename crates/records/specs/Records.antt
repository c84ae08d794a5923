-- What the test over a row of entries promises. Assumes nothing.
use Rattle.std.specs.Prelude.{List, ◌≡◌, ℕ, min, length}
use Rattle.numbers.specs.Lists.{written}
use Rattle.rules.specs.declared.Entry.{Entry}
use Rattle.rules.specs.declared.Report.{Report}
use Rattle.rules.specs.Test.{test}

-- the room is the number of records lent, at most 4096
abbrev pub row_room : List Entry → ℕ
row_room before = min 4096 (length before)

-- what the test of a table promises: the report is the outcome's; the stored entries stand at the front of the row, whose other records are
-- as before
pub record RowTested (bs : List ℕ) (limit : ℕ) (before : List Entry) (r : Report) (after : List Entry) : Type 0 where
  pub report : r ≡ (test bs limit (row_room before)).report
  pub entries : after ≡ written (test bs limit (row_room before)).entries before
