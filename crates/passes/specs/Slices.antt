-- The test over four parallel lent slices of numbers: what it promises. Assumes nothing.
use Rattle.std.specs.Prelude.{List, [], ◌∷◌, ◌++◌, map, ◌≡◌, ℕ, zero, suc}
use Rattle.numbers.specs.Lists.{written}
use Rattle.rules.specs.declared.Report.{Report}
use Rattle.rules.specs.declared.Entry.{Entry}
use Rattle.rules.specs.Passes.{Outcome}
use Rattle.rules.specs.Test.{test}
pub use Rattle.steps.specs.Slices.{Slices, slices, room_of}
unfoldable pub use Rattle.steps.specs.Slices.{entry_at}

-- ---- what a caller reads

-- the first n entries
unfoldable pub entries_to : Slices → ℕ → List Entry
entries_to σ zero = []
entries_to σ (suc n) = entries_to σ n ++ (entry_at σ n ∷ [])

-- the report, and as many entries out of the slices as it says
abbrev pub read_out : Report → Slices → Outcome
read_out r τ = record { report = r; entries = entries_to τ r.entries }

-- ---- what is promised

-- the kids of all entries, one after the other
unfoldable pub all_kids : List Entry → List ℕ
all_kids [] = []
all_kids (e ∷ es) = e.kids ++ all_kids es

-- the report is the outcome's; the stored entries stand at the front of the slices, whose other places are as before
pub record Tells (o : Outcome) (σ : Slices) (r : Report) (τ : Slices) : Type 0 where
  pub report : r ≡ o.report
  pub symbols : τ.symbols ≡ written (map (λ e. e.symbol) o.entries) σ.symbols
  pub graphs : τ.graphs ≡ written (map (λ e. e.graph) o.entries) σ.graphs
  pub productions : τ.productions ≡ written (map (λ e. e.production) o.entries) σ.productions
  pub kids : τ.kids ≡ written (all_kids o.entries) σ.kids

-- what the test of a table promises
abbrev pub Tested : List ℕ → ℕ → Slices → Report → Slices → Type 0
Tested bs limit σ r τ = Tells (test bs limit (room_of σ)) σ r τ
