-- Wrong versions of the test, each told by what it always does. Assumes nothing.
use Rattle.std.specs.Prelude.{List, [], ◌≡◌, ℕ, ◌≤◌, length}
use Rattle.numbers.specs.Lists.{up_from}
use Rattle.grammar.specs.declared.Broken.{Broken}
use Rattle.grammar.specs.Grammar.{production}
use Rattle.grammar.specs.Table.{width_of, grammar_of}
use Rattle.grammar.specs.Refusal.{refusal}
use Rattle.graph.specs.declared.Trail.{Trail}
use Rattle.graph.specs.Rows.{closure}
use Rattle.graph.specs.Search.{circle_of}
use Rattle.graph.specs.Marks.{masks_of}
use Rattle.graph.specs.Trails.{circle_trail}
use Rattle.parts.specs.Rule.{taking}
use Rattle.rules.specs.declared.Answer.TheVariants.{Noncircular, Circular, Refused, OutOfSteps, OutOfRoom}
use Rattle.rules.specs.Passes.{value_of, Outcome, outcome, no_root, pass, after, empty, passes}
use Rattle.rules.specs.Test.{system_in, root_rows, saying, after_check}
use Rattle.rules.specs.Small.{table_b}
use Rattle.verdict.specs.Demands.{Version, back, said}
use Rattle.verdict.specs.Circle.{with_circle}

abbrev pub RefusesEvery : Version → Type 0
RefusesEvery v = (bs : List ℕ) (limit room : ℕ) → (b : Broken) × (said (v bs limit room) ≡ Refused b)

abbrev pub AlwaysOutOfSteps : Version → Type 0
AlwaysOutOfSteps v = (bs : List ℕ) (limit room : ℕ) → said (v bs limit room) ≡ OutOfSteps

abbrev pub AlwaysOutOfRoom : Version → Type 0
AlwaysOutOfRoom v = (bs : List ℕ) (limit room : ℕ) → said (v bs limit room) ≡ OutOfRoom

abbrev pub AlwaysNoncircular : Version → Type 0
AlwaysNoncircular v = (bs : List ℕ) (limit room : ℕ) → said (v bs limit room) ≡ Noncircular

abbrev pub AlwaysCircular : Version → Type 0
AlwaysCircular v = (bs : List ℕ) (limit room : ℕ) → (p : ℕ) × (said (v bs limit room) ≡ Circular p)

abbrev pub StoresNothing : List ℕ → ℕ → ℕ → Version → Type 0
StoresNothing bs limit room v = (v bs limit room).entries ≡ []

abbrev pub BeginsOnePass : List ℕ → ℕ → ℕ → Version → Type 0
BeginsOnePass bs limit room v = (v bs limit room).report.passes ≤ 1

-- one honest pass, and then noncircular
abbrev pub one_pass : Version
one_pass bs limit room =
    after_check (refusal bs)
    (saying (width_of bs) (grammar_of bs)
    (after empty 1 (pass (system_in bs) limit room (taking (grammar_of bs)) empty) (λ s. outcome Noncircular no_root s 1)))

-- every production is tried, whether it takes part or not
abbrev pub every_production : Version
every_production bs limit room =
    after_check (refusal bs)
    (saying (width_of bs) (grammar_of bs) (passes (system_in bs) limit room (up_from 0 (length (grammar_of bs).productions))))

-- no circle is said
abbrev pub silent : Version
silent bs limit room = after_check (refusal bs) (passes (system_in bs) limit room (taking (grammar_of bs)))

-- the circle of the closed rows is said, of the production that is the answer's value
abbrev pub closed_circle : Version
closed_circle bs limit room =
    let g = grammar_of bs in
    let o = back bs limit room in
    let p = value_of (said o) in
    with_circle
    (circle_trail (width_of bs) (masks_of g (production g p)) (circle_of (closure (root_rows (width_of bs) g o.entries p o.report.root)))) o

-- the circle of B is said of every table, whatever the answer
abbrev pub circle_of_b : Version
circle_of_b bs limit room = with_circle (back table_b 3 2).report.circle (back bs limit room)

-- at a table all is as the rules have it, but for the circle
abbrev pub SaysAnotherCircle : List ℕ → ℕ → ℕ → Version → Type 0
SaysAnotherCircle bs limit room v =
    (t : Trail) × (v bs limit room ≡ with_circle t (back bs limit room)) × ¬ (t ≡ (back bs limit room).report.circle)

-- the count of closures is the invented number n
abbrev pub AlwaysCounts : ℕ → Version → Type 0
AlwaysCounts n v = (bs : List ℕ) (limit room : ℕ) → (v bs limit room).report.closures ≡ n

-- the version that always gives the same
abbrev pub constantly : Outcome → Version
constantly o bs limit room = o
