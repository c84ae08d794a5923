-- The promise of the exported test. Assumes nothing.
use Rattle.std.specs.Prelude.{List, ◌≡◌, ℕ}
use Rattle.rules.specs.declared.Report.{Report}
use Rattle.flats.specs.Flat.{flat}
use Rattle.passes.specs.Slices.{Slices, Tested}

-- the numbers are those of a report that the test promises
pub record TestedFlat (bs : List ℕ) (limit : ℕ) (σ : Slices) (numbers : List ℕ) (τ : Slices) : Type 0 where
  pub report : Report
  pub numbers_are : numbers ≡ flat report
  pub tested : Tested bs limit σ report τ
