-- Each wrong version falls to the demand that it fails, whatever else it does. Assumes nothing.
use mathlib.Core.Path.{◌≡◌, refl, ap, ◌∙◌, subst}
use mathlib.Core.List.{List}
use Prim.Native.Nat.{ℕ}
use native.Mathlib.Omega.{arith}
use lib.ListN.{length}
use Rattle.grammar.specs.declared.Broken.TheVariants.{Rule}
use Rattle.grammar.specs.Table.{grammar_of}
use Rattle.graph.specs.declared.Trail.{Trail}
use Rattle.graph.specs.Trails.{no_trail}
use Rattle.trees.specs.Tree.{Tree}
use Rattle.trees.specs.Evaluator.{Evaluator}
use Rattle.rules.specs.declared.Answer.{Answer}
use Rattle.rules.specs.declared.Answer.TheVariants.{Noncircular, Circular, Refused, OutOfSteps, OutOfRoom}
use Rattle.rules.specs.Passes.{Outcome, outcome, no_root, empty}
use Rattle.rules.specs.Opened.{opened}
use Rattle.rules.specs.Small.{table_a, table_b, table_spare, table_barren}
use Rattle.verdict.specs.Demands.{Version, back, said, shown_tree, CircularShown, RefusedExactlyAlways, CircularShownAlways, NoncircularNone, NoncircularNoneAlways, NothingTriedAlways, StepsExactlyAlways, RoomExactlyAlways, RoomCountsAlways, Finishes, NeverStill, NeverStillAlways, PassesFollowed}
use Rattle.verdict.specs.Circle.{CircleSaid, CircleSaidAlways, with_circle}
use Rattle.trials.specs.Wrong.{RefusesEvery, AlwaysOutOfSteps, AlwaysOutOfRoom, AlwaysNoncircular, AlwaysCircular, StoresNothing, BeginsOnePass, one_pass, every_production, silent, closed_circle, circle_of_b, SaysAnotherCircle, AlwaysCounts, constantly}
use Rattle.verdict.proofs.Demands.{circular_shown, some_circle}
use Rattle.verdict.proofs.OnlyCircle.{only_circle}
use Rattle.verdict.proofs.Together.{none_finishes, each_asked, still_early, same_entries}
use Rattle.trials.proofs.Examples.{unbroken_a, none_a, closures_a, entries_a_lem, not_three, none_said_a, circular_b, still_b, trail_b, closures_b, entries_b_lem, none_spare, no_tree_barren, unbroken_barren}

-- ---- demand 1: only bad tables are refused, and A is not bad
pub refuses_every : (v : Version) → RefusedExactlyAlways v → ¬ RefusesEvery v
refuses_every v demand wrong =
    let r = wrong table_a 10 3 in
    unbroken_a r.0 ((demand table_a 10 3 r.0).exactly.0 r.1)

-- ---- demand 2: out of steps and out of room come exactly when they must
-- no limit lets the passes over A make more than 10 closures
calm_a : (back table_a 11 3).report.closures ≡ 10
unfolding opened table_a
calm_a = refl

pub always_out_of_steps : (v : Version) → StepsExactlyAlways v → ¬ AlwaysOutOfSteps v
always_out_of_steps v demand wrong =
    let more = (demand table_a 10 11 3 (omega arith)).exactly.0 (wrong table_a 10 3) in
    omega (arith, calm_a)

-- no room lets them store more than 3 entries
small_a : length (back table_a 10 4).entries ≡ 3
unfolding opened table_a
small_a = refl

pub always_out_of_room : (v : Version) → RoomExactlyAlways v → ¬ AlwaysOutOfRoom v
always_out_of_room v demand wrong =
    let more = (demand table_a 10 10 3 4 (omega arith) (omega (arith, closures_a)) (omega arith)).exactly.0 (wrong table_a 10 3) in
    omega (arith, small_a)

-- and the trees of A have no more than 3 pairs of root symbol and graph
pub always_out_of_room_counts : (v : Version) → RoomCountsAlways v → ¬ AlwaysOutOfRoom v
always_out_of_room_counts v demand wrong =
    let w = wrong table_a 10 3 in
    not_three
    ((demand table_a 10 3 unbroken_a none_a (λ e. let z : ◌≡◌ {A = ℕ} 0 1 = cc in omega arith)).exactly.0 w)

-- ---- demands 2 and 3 at B: a tree has a circle, and on it each evaluator stands still with a value left over
abbrev tree_b : Tree
tree_b = shown_tree table_b (back table_b 3 2) 0

pub some_b : ¬ NoncircularNone table_b
some_b none = none (some_circle table_b 0 (back table_b 3 2) (circular_shown table_b 3 2 0 circular_b))

pub none_finishes_b : (ev : Evaluator (grammar_of table_b) tree_b) → ¬ Finishes table_b tree_b ev
none_finishes_b = none_finishes still_b

-- the demand is of each evaluator, and of every state
pub each_asked_b : (ev : Evaluator (grammar_of table_b) tree_b) → ¬ NeverStill table_b tree_b
each_asked_b = each_asked still_b

pub still_early_b : ¬ NeverStill table_b tree_b
still_early_b = still_early still_b

pub always_noncircular : (v : Version) → NoncircularNoneAlways v → ¬ AlwaysNoncircular v
always_noncircular v demand wrong = some_b (demand table_b 3 2 (wrong table_b 3 2))

pub always_noncircular_still : (v : Version) → NeverStillAlways v → ¬ AlwaysNoncircular v
always_noncircular_still v demand wrong =
    still_early_b (demand table_b 3 2 (wrong table_b 3 2) tree_b (circular_shown table_b 3 2 0 circular_b).from_start)

-- ---- demand 2 at A: no outcome shows a tree with a circle
pub no_tree_a : (p : ℕ) (o : Outcome) → ¬ CircularShown table_a p o
no_tree_a p o c = none_a (some_circle table_a p o c)

pub always_circular : (v : Version) → CircularShownAlways v → ¬ AlwaysCircular v
always_circular v demand wrong =
    let r = wrong table_a 10 3 in
    no_tree_a r.0 (v table_a 10 3) (demand table_a 10 3 r.0 r.1)

-- ---- what takes no part is skipped: else a spare symbol's tree would be shown, and no tree from the start symbol has a circle
circular_every : said (every_production table_spare 2 1) ≡ Circular 1
unfolding opened table_spare
circular_every = refl

pub every_production_lem : ¬ CircularShownAlways every_production
every_production_lem demand =
    none_spare (some_circle table_spare 1 (every_production table_spare 2 1) (demand table_spare 2 1 1 circular_every))

-- and a start symbol without a finite tree would not be noncircular
circular_every_barren : said (every_production table_barren 1 0) ≡ Circular 1
unfolding opened table_barren
circular_every_barren = refl

pub every_production_barren : ¬ NothingTriedAlways every_production
every_production_barren demand =
    let nothing = demand table_barren 1 0 unbroken_barren no_tree_barren in
    let z : ◌≡◌ {A = ℕ} 0 1 = cc (circular_every_barren, ap said nothing) in omega arith

-- ---- the passes, at A and B
passes_a : (back table_a 10 3).report.passes ≡ 3
unfolding opened table_a
passes_a = refl

passes_b : (back table_b 3 2).report.passes ≡ 2
unfolding opened table_b
passes_b = refl

pub stores_nothing : (v : Version) → PassesFollowed v → (¬ StoresNothing table_a 10 3 v) × (¬ StoresNothing table_b 3 2 v)
stores_nothing v demand = (
  λ wrong. omega (arith, entries_a_lem, ap length (same_entries v demand table_a 10 3), ap length wrong),
  λ wrong. omega (arith, entries_b_lem, ap length (same_entries v demand table_b 3 2), ap length wrong),
)

pub one_pass_lem : (v : Version) → PassesFollowed v → (¬ BeginsOnePass table_a 10 3 v) × (¬ BeginsOnePass table_b 3 2 v)
one_pass_lem v demand = (
  λ wrong. omega (arith, passes_a, ap (λ (o : Outcome). o.report.passes) (demand table_a 10 3)),
  λ wrong. omega (arith, passes_b, ap (λ (o : Outcome). o.report.passes) (demand table_b 3 2)),
)

-- one honest pass over B has met no circle yet
noncircular_one_pass : said (one_pass table_b 3 2) ≡ Noncircular
unfolding opened table_b
noncircular_one_pass = refl

pub one_honest_pass : ¬ NoncircularNoneAlways one_pass
one_honest_pass demand = some_b (demand table_b 3 2 noncircular_one_pass)

pub invented_count : (v : Version) → PassesFollowed v → (n : ℕ) → ¬ AlwaysCounts n v
invented_count v demand n wrong =
    omega (
      arith,
      closures_a,
      closures_b,
      ap (λ (o : Outcome). o.report.closures) (demand table_a 10 3),
      ap (λ (o : Outcome). o.report.closures) (demand table_b 3 2),
      wrong table_a 10 3,
      wrong table_b 3 2,
    )

-- ---- the circle: whatever else is said in its place
pub another_circle : (v : Version) → CircleSaidAlways v → (bs : List ℕ) (limit room : ℕ) → ¬ SaysAnotherCircle bs limit room v
another_circle v demand bs limit room (t, is, other) = other (only_circle bs limit room t (subst (CircleSaid bs) is (demand bs limit room)))

links_b : (back table_b 3 2).report.circle.len ≡ 4
links_b = ap (λ (t : Trail). t.len) trail_b

silent_b : silent table_b 3 2 ≡ with_circle no_trail (back table_b 3 2)
unfolding opened table_b
silent_b = refl

pub says_none : ¬ CircleSaidAlways silent
says_none demand =
    another_circle silent demand table_b 3 2 (no_trail, silent_b, λ e. omega (arith, links_b, ap (λ (t : Trail). t.len) e))

-- in the closed rows a shortest circle has one link
links_closed : (closed_circle table_b 3 2).report.circle.len ≡ 1
unfolding opened table_b
links_closed = refl

pub closed_circle_lem : ¬ CircleSaidAlways closed_circle
closed_circle_lem demand =
    another_circle closed_circle demand table_b 3 2
    ((closed_circle table_b 3 2).report.circle, refl, λ e. omega (arith, links_b, links_closed, ap (λ (t : Trail). t.len) e))

-- A has none to say
pub circle_of_b_lem : ¬ CircleSaidAlways circle_of_b
circle_of_b_lem demand =
    another_circle circle_of_b demand table_a 10 3
    ((back table_b 3 2).report.circle, refl, λ e. omega (arith, links_b, ap (λ (t : Trail). t.len) (e ∙ none_said_a)))

-- ---- such versions there are
abbrev quick : Answer → Outcome
quick a = outcome a no_root empty 1

pub there_are :
    RefusesEvery (constantly (quick (Refused (Rule 1)))) × AlwaysOutOfSteps (constantly (quick OutOfSteps))
    × AlwaysOutOfRoom (constantly (quick OutOfRoom)) × AlwaysNoncircular (constantly (quick Noncircular))
    × AlwaysCircular (constantly (quick (Circular 0))) × AlwaysCounts 0 (constantly (quick Noncircular))
there_are =
    (λ bs limit room. (Rule 1, refl), λ bs limit room. refl, λ bs limit room. refl, λ bs limit room. refl, λ bs limit room. (0, refl), λ bs limit room. refl)
