-- The passes over lent slices, where the closures that are left are counted down: what the slices and a run say in the words of the
-- rules, and what it is to follow a rule. Assumes nothing.
use Rattle.std.specs.Prelude.{Result, Ok, Err, List, map, ◌≡◌, ℕ, ◌-◌, ◌*◌, ◌≤◌, length, get_or, take, drop}
use Rattle.numbers.specs.Lists.{keep}
use Rattle.grammar.specs.declared.Production.{Production}
use Rattle.grammar.specs.Grammar.{Grammar, production, rights, edges_of}
use Rattle.grammar.specs.Table.{attributes, grammar_of}
use Rattle.graph.specs.declared.Trail.{Trail}
use Rattle.graph.specs.Rows.{compound, has_circle, root_graph}
use Rattle.graph.specs.Trails.{no_trail}
use Rattle.parts.specs.Sets.{Symbols}
use Rattle.parts.specs.Rule.{takes_part}
use Rattle.rules.specs.declared.Answer.{Answer}
use Rattle.rules.specs.declared.Report.{Report}
use Rattle.steps.specs.declared.Run.{Run}
use Rattle.steps.specs.declared.Stop.{Stop}
use Rattle.steps.specs.declared.Task.{Task}
use Rattle.compounds.specs.Combination.{own_in, closed_over}
use Rattle.turns.specs.Combos.{combos_of}
use Rattle.turns.specs.Turning.{of_symbol}
use Rattle.passes.specs.declared.Ending.{Ending}
use Rattle.rules.specs.Passes.{System, State, Ran, going, stopped, counting, tries}
use Rattle.rules.specs.Test.{of_root, circle_in}
use Rattle.passes.specs.Slices.{Slices, entries_to}

-- ---- the slices and a run, in the words of the rules

-- the end of the passes, and the report in which no circle is said yet
abbrev pub ending_of : Answer → List ℕ → ℕ → Run → ℕ → Ending
ending_of a root limit r begun = record { answer = a; root = root; closures = limit - r.left; entries = r.stored; passes = begun }

abbrev pub unsaid : Ending → Report
unsaid e =
    record { answer = e.answer; closures = e.closures; entries = e.entries; passes = e.passes; root = e.root; circle = no_trail }

-- of `limit` closures those that are not left have been made
abbrev pub state_of : ℕ → Slices → Run → State
state_of limit σ r = record { entries = entries_to σ r.stored; made = limit - r.left }

abbrev pub ran_of : ℕ → Slices → Result Run Stop → Ran
ran_of limit σ (Ok r) = going (state_of limit σ r)
ran_of limit σ (Err s) = stopped s.answer s.root (state_of limit σ s.run)

-- where a run stands that goes on or has stopped
abbrev pub run_in : Result Run Stop → Run
run_in (Ok r) = r
run_in (Err s) = s.run

-- ---- what it is to follow a rule

-- as long as before, and nothing is changed from place n on
pub record Beyond (n : ℕ) (before after : List ℕ) : Type 0 where
  pub long : length after ≡ length before
  pub rest : drop n after ≡ drop n before

-- entries are only added, within the room
pub record Kept (room : ℕ) (σ : Slices) (r : Run) (τ : Slices) (q : Run) : Type 0 where
  pub symbols : Beyond q.stored σ.symbols τ.symbols
  pub graphs : Beyond q.stored σ.graphs τ.graphs
  pub productions : Beyond q.stored σ.productions τ.productions
  pub kids : Beyond (7 * q.stored) σ.kids τ.kids
  pub stay : (n : ℕ) → n ≤ r.stored → entries_to τ n ≡ entries_to σ n
  pub more : r.stored ≤ q.stored
  pub fits : q.stored ≤ room
  pub left : q.left ≤ r.left

-- From σ and r to τ and q the slices and a run that goes on follow a rule. This is the one law between the rules, which count closures up to a
-- limit, and the code, which counts those that are left: it holds for each limit that leaves as many.
pub record Follows (room : ℕ) (rule : ℕ → State → Ran) (σ : Slices) (r : Run) (τ : Slices) (q : Result Run Stop) : Type 0 where
  pub kept : Kept room σ r τ (run_in q)
  pub ran : (limit : ℕ) → r.left ≤ limit → ran_of limit τ q ≡ rule limit (state_of limit σ r)

-- the room holds what is stored
pub record Roomy (room : ℕ) (σ : Slices) (r : Run) : Type 0 where
  pub symbols : room ≤ length σ.symbols
  pub graphs : room ≤ length σ.graphs
  pub productions : room ≤ length σ.productions
  pub kids : 7 * room ≤ length σ.kids
  pub stored : r.stored ≤ room
  pub small : room ≤ 4096

-- ---- the circle, once the passes have ended

-- where the answer is circular, the circle of the root, whose entries have these graphs
abbrev pub circle_over : List ℕ → List ℕ → List ℕ → Answer → Trail
circle_over bs gs root =
    let g = grammar_of bs in
    of_root (λ p.
    circle_in attributes g p (compound attributes (edges_of g p) (map (λ i. get_or gs i 0) (counting (rights (production g p)) root))))

-- ---- one production's turn

-- a task over its production's run of edge records as a system, the same at each production
unfoldable pub system_by : Task → List ℕ → List ℕ → System
system_by k rights edges =
    record {
      left = λ p. k.symbol;
      rights = λ p. take k.count rights;
      graph = λ p gs. root_graph attributes (closed_over (own_in edges) gs);
      circle = λ p gs. has_circle (closed_over (own_in edges) gs);
    }

-- the rule of a task over some combinations
abbrev pub over : Task → List ℕ → List ℕ → List (List ℕ) → ℕ → State → Ran
over k rights edges cs limit = tries (system_by k rights edges) limit k.room k.number cs

-- the turn of a production by its number
unfoldable pub task_of : ℕ → Production → ℕ → Task
task_of number p room = record { number = number; symbol = p.left; count = p.n; room = room }

-- the productions of a list that take part, by the two sets
abbrev pub parts_among : Symbols → Symbols → Grammar → List ℕ → List ℕ
parts_among treed reached g ps = keep (λ p. takes_part treed reached (production g p)) ps

-- the combinations of the entries with which the turn began, of which there are `first`
abbrev pub combos_in : Task → List ℕ → ℕ → List ℕ → List (List ℕ)
combos_in k rights first symbols = combos_of (of_symbol symbols rights) first k.count 0

-- a turn goes on: the room holds what is stored, and what was stored when the turn began still is
pub record InTurn (k : Task) (rights : List ℕ) (first : ℕ) (σ : Slices) (r : Run) : Type 0 where
  pub roomy : Roomy k.room σ r
  pub first_held : first ≤ r.stored
  pub few : k.count ≤ 7
  pub slots : length rights ≡ 7
