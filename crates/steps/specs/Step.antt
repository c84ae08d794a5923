-- The six steps for one combination over the slices, where the closures that are left are counted down. Assumes nothing.
use Rattle.std.specs.Prelude.{Result, Ok, Err, Bool, true, false, List, ◌≡◌, ℕ, ◌+◌, ◌-◌, min, eqb, length, get_or}
use Rattle.numbers.specs.Lists.{both, some_below}
use Rattle.grammar.specs.Table.{attributes}
use Rattle.graph.specs.Rows.{has_circle, root_graph}
use Rattle.compounds.specs.Combination.{closed_in}
use Rattle.rules.specs.declared.Answer.{Answer}
use Rattle.rules.specs.declared.Answer.TheVariants.{Circular, OutOfSteps, OutOfRoom}
use Rattle.rules.specs.declared.Entry.{Entry}
use Rattle.rules.specs.Passes.{no_root}
use Rattle.steps.specs.declared.Run.{Run}
use Rattle.steps.specs.declared.Stop.{Stop}
use Rattle.steps.specs.declared.Task.{Task}
use Rattle.steps.specs.declared.Verdict.{Verdict}
use Rattle.steps.specs.declared.Verdict.TheVariants.{Steps, Circle, Known, Full, New}
use Rattle.steps.specs.Slices.{Slices, put_in}

-- ---- a run that goes on, and one that has stopped

abbrev pub goes_on : ℕ → ℕ → Result Run Stop
goes_on left stored = Ok (record { left = left; stored = stored })

abbrev pub stops : Answer → List ℕ → ℕ → ℕ → Result Run Stop
stops a root left stored = Err (record { answer = a; root = root; run = record { left = left; stored = stored } })

-- ---- the tests

-- the symbol with the graph is among the first n entries
abbrev pub seen_in : List ℕ → List ℕ → ℕ → ℕ → ℕ → Bool
seen_in symbols graphs y g n = some_below (λ i. both (eqb (get_or symbols i 0) y) (eqb (get_or graphs i 0) g)) n

-- how many of `stored` entries have both a symbol and a graph
abbrev pub least : List ℕ → List ℕ → ℕ → ℕ
least symbols graphs stored = min stored (min (length symbols) (length graphs))

-- what is to be done with a combination, by the four tests of the six steps
unfoldable pub verdict : Bool → Bool → Bool → Bool → Verdict
verdict true circle known full = Steps
verdict false true known full = Circle
verdict false false true full = Known
verdict false false false true = Full
verdict false false false false = New

unfoldable pub judged : Task → List ℕ → List ℕ → List ℕ → ℕ → ℕ → List ℕ → Verdict
judged k edges symbols graphs left stored picked =
    let closed = closed_in edges graphs k.count picked in
    verdict (eqb left 0) (has_circle closed) (seen_in symbols graphs k.symbol (root_graph attributes closed) (least symbols graphs stored))
    (eqb stored k.room)

-- where the combination is new, its graph, and else the verdict
abbrev pub graph_or : ℕ → Verdict → Result ℕ Verdict
graph_or graph Steps = Err Steps
graph_or graph Circle = Err Circle
graph_or graph Known = Err Known
graph_or graph Full = Err Full
graph_or graph New = Ok graph

abbrev pub Judges : Task → List ℕ → Slices → ℕ → ℕ → List ℕ → Result ℕ Verdict → Type 0
Judges k edges σ left stored picked r =
    r ≡ graph_or (root_graph attributes (closed_in edges σ.graphs k.count picked)) (judged k edges σ.symbols σ.graphs left stored picked)

-- ---- what is done

-- it counts the closure
abbrev pub counts : Verdict → Bool
counts Steps = false
counts Circle = true
counts Known = true
counts Full = true
counts New = true

-- it stores an entry
abbrev pub stores : Verdict → Bool
stores Steps = false
stores Circle = false
stores Known = false
stores Full = false
stores New = true

unfoldable pub run_at : Verdict → ℕ → List ℕ → ℕ → ℕ → Result Run Stop
run_at Steps number picked left stored = stops OutOfSteps no_root left stored
run_at Circle number picked left stored = stops (Circular number) picked (left - 1) stored
run_at Known number picked left stored = goes_on (left - 1) stored
run_at Full number picked left stored = stops OutOfRoom no_root (left - 1) stored
run_at New number picked left stored = goes_on (left - 1) (stored + 1)

abbrev pub entry_of : Task → ℕ → List ℕ → Entry
entry_of k graph picked = record { symbol = k.symbol; graph = graph; production = k.number; kids = picked }

unfoldable pub slices_at : Verdict → Task → ℕ → List ℕ → ℕ → Slices → Slices
slices_at Steps k graph picked stored σ = σ
slices_at Circle k graph picked stored σ = σ
slices_at Known k graph picked stored σ = σ
slices_at Full k graph picked stored σ = σ
slices_at New k graph picked stored σ = put_in σ stored (entry_of k graph picked)

-- ---- what is promised

-- From σ to τ the combination is tried, with the verdict v.
pub record Tried (k : Task) (edges picked : List ℕ) (left stored : ℕ) (σ : Slices) (v : Verdict) (τ : Slices) : Type 0 where
  pub verdict_is : v ≡ judged k edges σ.symbols σ.graphs left stored picked
  pub slices : τ ≡ slices_at v k (root_graph attributes (closed_in edges σ.graphs k.count picked)) picked stored σ
