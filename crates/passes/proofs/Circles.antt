-- The circle that is said when the passes have ended. Assumes nothing.
use mathlib.Core.Path.{◌≡◌, refl, sym, ap, ◌∙◌}
use mathlib.Core.List.{List, [], ◌∷◌, map}
use Prim.Native.Nat.{ℕ, ◌<◌}
use native.Mathlib.Decide.{dec_lt}
use native.Mathlib.Omega.{arith}
use lib.ListN.{length, get_or, take, drop, length-map, length-take, get_or-eq_default}
use lib.Seq.{take_at}
use Rattle.std.specs.Prelude.{Ok}
use Rattle.numbers.specs.Lists.{written}
use Rattle.numbers.proofs.Members.{at_map}
use Rattle.grammar.specs.Grammar.{production, rights}
use Rattle.grammar.specs.Table.{width_of, grammar_of}
use Rattle.grammar.specs.Refusal.{refusal}
use Rattle.grammar.proofs.Lookups.{slots_seven}
use Rattle.graph.specs.Trails.{no_trail}
use Rattle.graph.proofs.Tables.{few_rights}
use Rattle.circles.specs.Ring.{ring_in}
use Rattle.circles.proofs.Saying.{ring_said}
use Rattle.rules.specs.declared.Answer.{Answer}
use Rattle.rules.specs.declared.Answer.TheVariants.{Noncircular, Circular, Refused, OutOfSteps, OutOfRoom}
use Rattle.rules.specs.declared.Entry.{Entry}
use Rattle.rules.specs.declared.Report.{Report}
use Rattle.rules.specs.Passes.{Outcome, no_entry, entry, graphs, counting}
use Rattle.rules.specs.Test.{report_with, circle_said, saying}
use Rattle.passes.specs.Slices.{Slices, Tells}
use Rattle.passes.specs.Follow.{circle_over}

-- where the answer is not circular
pub none_said : (bs gs root : List ℕ) (a : Answer) → ((p : ℕ) → a ≡ Circular p → ⊥) → no_trail ≡ circle_over bs gs root a
none_said bs gs root Noncircular k = refl
none_said bs gs root (Circular p) k = absurd (k p refl)
none_said bs gs root (Refused b) k = refl
none_said bs gs root OutOfSteps k = refl
none_said bs gs root OutOfRoom k = refl

-- where it is
pub one_said : (bs : List ℕ) → refusal bs ≡ Ok tt → (gs root : List ℕ) (p : ℕ) → length root ≡ 7
    → ring_in bs gs p root ≡ circle_over bs gs root (Circular p)
one_said bs good gs root p seven =
    let q = production (grammar_of bs) p in
    let count : q.n ≡ length (rights q) = omega (arith, length-take q.n q.slots, slots_seven bs p, few_rights bs good p) in
    ring_said bs good p gs root _ seven (ap (λ (n : ℕ). map (λ i. get_or gs i 0) (take n root)) count)

-- the graphs of the stored entries stand at the front of their slice
module _ (bs : List ℕ) (es : List Entry) (gs : List ℕ) (are : gs ≡ map (λ e. e.graph) es) where
  graph_at : (i : ℕ) → get_or gs i 0 ≡ (entry es i).graph
  graph_at i = ap (λ (l : List ℕ). get_or l i 0) are ∙ go (dec_lt i (length es))
    where
      go : Dec (i < length es) → get_or (map (λ e. e.graph) es) i 0 ≡ (entry es i).graph
      go (yes l) = at_map (λ (e : Entry). e.graph) no_entry 0 es i l
      go (no n) =
          get_or-eq_default (map (λ (e : Entry). e.graph) es) 0 (omega (arith, length-map es (λ (e : Entry). e.graph)))
          ∙ ap (λ (e : Entry). e.graph) (sym (get_or-eq_default es no_entry (omega arith)))

  graphs_are : (l : List ℕ) → map (λ i. get_or gs i 0) l ≡ graphs es l
  graphs_are [] = refl
  graphs_are (i ∷ l) = λ j. graph_at i j ∷ graphs_are l j

  over_said : (root : List ℕ) (a : Answer) → circle_over bs gs root a ≡ circle_said (width_of bs) (grammar_of bs) es root a
  over_said root Noncircular = refl
  over_said root (Circular p) = rw (graphs_are (counting (rights (production (grammar_of bs) p)) root))
  over_said root (Refused b) = refl
  over_said root OutOfSteps = refl
  over_said root OutOfRoom = refl

front : (es : List Entry) (after before : List ℕ) (n : ℕ) → after ≡ written (map (λ e. e.graph) es) before → n ≡ length es
    → take n after ≡ map (λ e. e.graph) es
front es after before n e l =
    ap (take n) e
    ∙ take_at (map (λ e. e.graph) es) (drop (length (map (λ (e : Entry). e.graph) es)) before) n
    (omega (arith, length-map es (λ (e : Entry). e.graph)))

-- the report with its circle tells what the passes give, and the circle
pub saying_told : (bs : List ℕ) (o : Outcome) (σ : Slices) (r : Report) (τ : Slices) → o.report.entries ≡ length o.entries → Tells o σ r τ
    → {c : Report} → c ≡ report_with (circle_over bs (take r.entries τ.graphs) r.root r.answer) r
    → Tells (saying (width_of bs) (grammar_of bs) o) σ c τ
saying_told bs o σ r τ counted told {c} e =
    record {
      report =
          e
          ∙ ap (λ (x : Report). report_with (circle_over bs (take x.entries τ.graphs) x.root x.answer) x) told.report
          ∙ ap (λ t. report_with t o.report)
          (over_said bs o.entries (take o.report.entries τ.graphs)
          (front o.entries τ.graphs σ.graphs o.report.entries told.graphs counted) o.report.root o.report.answer);
      symbols = told.symbols;
      graphs = told.graphs;
      productions = told.productions;
      kids = told.kids;
    }
