-- A row in which one entry stands everywhere. Assumes nothing.
use mathlib.Core.Path.{◌≡◌}
use lib.ListN.{length, length-replicate}
use Rattle.rules.specs.declared.Entry.{Entry}
use Rattle.agreement.specs.Agreement.{row_of}

pub length_row : (e : Entry) → length (row_of e) ≡ 4096
unfolding row_of
length_row e = length-replicate 4096 e
