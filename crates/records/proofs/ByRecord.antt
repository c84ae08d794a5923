-- What the promise of the test says, record by record. Assumes nothing.
use mathlib.Core.Path.{◌≡◌, ap, ◌∙◌}
use mathlib.Core.List.{List}
use Prim.Native.Nat.{ℕ, ◌≤◌, ◌<◌}
use native.Mathlib.Omega.{arith}
use lib.ListN.{length}
use Rattle.std.specs.Prelude.{Err}
use Rattle.numbers.specs.Lists.{written}
use Rattle.grammar.specs.declared.Broken.{Broken}
use Rattle.grammar.specs.Refusal.{refusal}
use Rattle.rules.specs.declared.Entry.{Entry}
use Rattle.rules.specs.declared.Report.{Report}
use Rattle.rules.specs.Passes.{Outcome, no_entry, entry}
use Rattle.rules.specs.Test as rules
use Rattle.records.specs.Records.{row_room, RowTested}
use Rattle.rules.proofs.Stored.{counted_test}
use Rattle.passes.proofs.Testing.{test_refused}
use Rattle.rows.proofs.Writing.{length_written, written_there, written_rest}

module _ (bs : List ℕ) (limit : ℕ) (before : List Entry) (r : Report) (after : List Entry) (tested : RowTested bs limit before r after) where
  abbrev stored : List Entry
  stored = (rules.test bs limit (row_room before)).entries

  fits : length stored ≤ row_room before
  fits = (counted_test bs limit (row_room before)).sound.fits

  pub same_length : length after ≡ length before
  same_length = ap length tested.entries ∙ length_written stored before (omega (arith, fits))

  -- the stored ones
  pub stored_there : (i : ℕ) → i < length stored → entry after i ≡ entry stored i
  stored_there i l = ap (λ (es : List Entry). entry es i) tested.entries ∙ written_there stored before no_entry i l

  -- the rest of the row as before
  pub rest_before : (i : ℕ) → length stored ≤ i → entry after i ≡ entry before i
  rest_before i l = ap (λ (es : List Entry). entry es i) tested.entries ∙ written_rest stored before no_entry i l

  -- records beyond 4,096 are never used
  pub beyond_before : (i : ℕ) → 4096 ≤ i → entry after i ≡ entry before i
  beyond_before i l = rest_before i (omega (arith, fits))

  -- on a refusal all is as before
  pub refused_before : (b : Broken) → refusal bs ≡ Err b → after ≡ before
  refused_before b bad = tested.entries ∙ ap (λ (o : Outcome). written o.entries before) (test_refused bs limit (row_room before) b bad)
