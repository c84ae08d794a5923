-- The circularity test: from the bytes of a table, the closure limit and the room to what comes back. Assumes nothing.
use Rattle.std.specs.Prelude.{List, ℕ, Ok, Err}
use Rattle.grammar.specs.Grammar.{Grammar, production, rights, edges_of}
use Rattle.grammar.specs.Table.{width_of, grammar_of}
use Rattle.grammar.specs.Refusal.{Checked, refusal}
use Rattle.parts.specs.Rule.{taking}
use Rattle.graph.specs.Rows.{compound, closure, has_circle, root_graph}
use Rattle.graph.specs.declared.Trail.{Trail}
use Rattle.graph.specs.Search.{circle_of}
use Rattle.graph.specs.Marks.{masks_of}
use Rattle.graph.specs.Trails.{no_trail, circle_trail}
use Rattle.rules.specs.declared.Answer.{Answer}
use Rattle.rules.specs.declared.Answer.TheVariants.{Noncircular, Circular, Refused, OutOfSteps, OutOfRoom}
use Rattle.rules.specs.declared.Report.{Report}
use Rattle.rules.specs.declared.Entry.{Entry}
use Rattle.rules.specs.Passes.{System, Outcome, outcome, counting, graphs, no_root, empty, passes}

-- the closed rows of a production's compound graph over the graphs gs
abbrev pub closed : ℕ → Grammar → ℕ → List ℕ → List ℕ
closed w g p gs = closure (compound w (edges_of g p) gs)

unfoldable pub system_of : ℕ → Grammar → System
system_of w g =
    record {
      left = λ p. (production g p).left;
      rights = λ p. rights (production g p);
      graph = λ p gs. root_graph w (closed w g p gs);
      circle = λ p gs. has_circle (closed w g p gs);
    }

-- what the passes ask of the grammar of a table
abbrev pub system_in : List ℕ → System
system_in bs = system_of (width_of bs) (grammar_of bs)

-- the compound graph of a root: of the production p over the entries in its slots
abbrev pub root_rows : ℕ → Grammar → List Entry → ℕ → List ℕ → List ℕ
root_rows w g es p root = compound w (edges_of g p) (graphs es (counting (rights (production g p)) root))

-- where the answer is circular, what is said of its production
abbrev pub of_root : (ℕ → Trail) → Answer → Trail
of_root circle (Circular p) = circle p
of_root circle Noncircular = no_trail
of_root circle (Refused b) = no_trail
of_root circle OutOfSteps = no_trail
of_root circle OutOfRoom = no_trail

-- the circle in the rows of a production's compound graph
abbrev pub circle_in : ℕ → Grammar → ℕ → List ℕ → Trail
circle_in w g p rows = circle_trail w (masks_of g (production g p)) (circle_of rows)

-- that of the root's compound graph
abbrev pub circle_said : ℕ → Grammar → List Entry → List ℕ → Answer → Trail
circle_said w g es root = of_root (λ p. circle_in w g p (root_rows w g es p root))

-- a report with another circle
abbrev pub report_with : Trail → Report → Report
report_with t r =
    record { answer = r.answer; closures = r.closures; entries = r.entries; passes = r.passes; root = r.root; circle = t }

-- what the passes give, and the circle
abbrev pub saying : ℕ → Grammar → Outcome → Outcome
saying w g o =
    let r = o.report in
    record { report = report_with (circle_said w g o.entries r.root r.answer) r; entries = o.entries }

-- a bad table is refused: nothing is counted and nothing is stored
unfoldable pub after_check : Checked → Outcome → Outcome
after_check (Ok u) o = o
after_check (Err b) o = outcome (Refused b) no_root empty 0

-- a pass goes over the productions that take part, by number
unfoldable pub test : List ℕ → ℕ → ℕ → Outcome
test bs limit room =
    after_check (refusal bs) (saying (width_of bs) (grammar_of bs) (passes (system_in bs) limit room (taking (grammar_of bs))))
