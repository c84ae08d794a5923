-- What is shown of the passes without stale combinations, besides what is shown of any passes (`Claims`), over any system W, any list of
-- productions ps, any closure limit L and any room R. Assumes nothing.
use Rattle.std.specs.Prelude.{◌≡◌, List, [], map, ℕ, suc, ◌<◌, ◌≤◌, length}
use Rattle.numbers.specs.Lists.{Distinct}
use Rattle.rules.specs.declared.Answer.TheVariants.{Noncircular, OutOfSteps}
use Rattle.rules.specs.Passes.{System, State, Outcome, empty, passes}
use Rattle.rules.specs.Fresh.{Since, no_turn, Went, goes, stops, fresh_pass, fresh_passes_from, fresh_passes}
use Rattle.orders.specs.Answers.{Passed}
use Rattle.orders.specs.Closures.{Closure, closed, sum, combinations_of}
use Rattle.orders.specs.Orders.{fresh_of, passes_plan_of}
use Rattle.orders.specs.Plain.{offers, plain}

abbrev pub went_to : Went → State
went_to (goes since s) = s
went_to (stops a root s) = s

-- any turns, from any state and whatever is kept of earlier ones: what is stored stays
abbrev pub FreshStay : Type 0
FreshStay =
    (W : System) (ps : List ℕ) (L R : ℕ) (since : Since) (s : State) → s.made ≤ L → length s.entries ≤ R
    → Passed L R s (went_to (fresh_pass W L R ps since s))

-- the fuel is never used up
abbrev pub FreshFuel : Type 0
FreshFuel = (W : System) (ps : List ℕ) (L R fuel : ℕ) → R < fuel → fresh_passes_from W L R fuel ps 0 no_turn empty ≡ fresh_passes W L R ps

-- ---- beside the passes of `Passes`
-- answer, root, entries and passes are the same, and the closures are no more
pub record Spared (o o' : Outcome) : Type 0 where
  pub answer : o'.report.answer ≡ o.report.answer
  pub root : o'.report.root ≡ o.report.root
  pub entries : o'.entries ≡ o.entries
  pub counted : o'.report.entries ≡ o.report.entries
  pub passes : o'.report.passes ≡ o.report.passes
  pub closures : o'.report.closures ≤ o.report.closures

-- where those do not end out of steps
abbrev pub FreshSpares : Type 0
FreshSpares =
    (W : System) (ps : List ℕ) (L R : ℕ) → ((passes W L R ps).report.answer ≡ OutOfSteps → ⊥)
    → Spared (passes W L R ps) (fresh_passes W L R ps)

-- ---- the closures, the latest first
abbrev pub fresh_closures : System → List ℕ → ℕ → ℕ → List Closure
fresh_closures W ps L R = closed (plain W) L R (passes_plan_of (plain W) (fresh_of (offers W)) ps (suc R)) [] []

-- these are the ones that are counted
abbrev pub AllListed : Type 0
AllListed = (W : System) (ps : List ℕ) (L R : ℕ) → length (fresh_closures W ps L R) ≡ (fresh_passes W L R ps).report.closures

-- no production is closed twice over the same combination
abbrev pub NeverTwice : Type 0
NeverTwice = (W : System) (ps : List ℕ) (L R : ℕ) → Distinct (fresh_closures W ps L R)

-- after noncircular they are as many as there are combinations, where no production is given twice
abbrev pub FreshCounts : Type 0
FreshCounts =
    (W : System) (ps : List ℕ) → Distinct ps → (L R : ℕ) → (fresh_passes W L R ps).report.answer ≡ Noncircular
    → (fresh_passes W L R ps).report.closures ≡ sum (map (combinations_of W (fresh_passes W L R ps).entries) ps)
