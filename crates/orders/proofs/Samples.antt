-- The claims at A and B: what each asks can be met. Assumes nothing.
use mathlib.Core.Path.{◌≡◌, refl, subst}
use mathlib.Core.List.{List, [], ◌∷◌, map}
use Prim.Native.Nat.{ℕ, ◌≤◌}
use native.Mathlib.Omega.{arith}
use lib.ListN.{length}
use Rattle.numbers.specs.Lists.{up_from, Distinct}
use Rattle.numbers.proofs.Distinct.{distinct_up_from}
use Rattle.rules.specs.declared.Answer.TheVariants.{Noncircular, Circular, OutOfSteps, OutOfRoom}
use Rattle.rules.specs.Passes.{Outcome, passes}
use Rattle.rules.specs.Fresh.{fresh_passes}
use Rattle.rules.specs.Opened.{opened}
use Rattle.rules.proofs.Cases.{Line, line_of as line}
use Rattle.orders.specs.Stored.{In, Root, AllMade}
use Rattle.orders.specs.Answers.{Verdict, OneStored}
use Rattle.orders.specs.Samples.{small, A, B, productions}
use Rattle.orders.specs.Plans.{tries_plan}
use Rattle.orders.specs.Orders.{order_plan, turns_order, passes_order}
use Rattle.orders.specs.Closures.{closing, closed, product, sum, combinations_of}
use Rattle.orders.specs.FreshClaims.{Spared, fresh_closures}
use Rattle.orders.specs.Plain.{judged}
use Rattle.orders.proofs.Answers.{noncircular_saturated, circular_root, steps_exactly, room_exactly, one_more, more_room}
use Rattle.orders.proofs.FreshAnswers.{fresh_steps, fresh_root, fresh_spares, fresh_counts}

abbrev run_a : ℕ → ℕ → Outcome
run_a L R = passes A L R productions

abbrev run_b : ℕ → ℕ → Outcome
run_b L R = passes B L R productions

-- K1 to K8
K : ◌≡◌ {A = List Line}
    (line (run_a 10 3)
    ∷ line (run_a 9 3)
    ∷ line (run_a 10 2)
    ∷ line (run_a 0 0)
    ∷ line (run_b 3 2)
    ∷ line (run_b 2 2)
    ∷ line (run_b 3 1)
    ∷ line (run_b 1 1)
    ∷ [])
    ((Noncircular, 10, 3, 3)
    ∷ (OutOfSteps, 9, 3, 3)
    ∷ (OutOfRoom, 3, 2, 2)
    ∷ (OutOfSteps, 0, 0, 1)
    ∷ (Circular 0, 3, 2, 2)
    ∷ (OutOfSteps, 2, 2, 2)
    ∷ (OutOfRoom, 2, 1, 1)
    ∷ (OutOfSteps, 1, 1, 1)
    ∷ [])
unfolding opened small
K = refl

-- ---- A
noncircular_a : (run_a 10 3).report.answer ≡ Noncircular
unfolding opened small
noncircular_a = refl

made_a : (run_a 10 3).report.closures ≡ 10
unfolding opened small
made_a = refl

entries_a_lem : length (run_a 10 3).entries ≡ 3
unfolding opened small
entries_a_lem = refl

verdict_a : Verdict (run_a 10 3).report.answer
unfolding opened small
verdict_a = tt

-- A makes 10 closures: 9 are not enough, and every greater limit and room gives the same
steps_a : (run_a 9 3).report.answer ≡ OutOfSteps
steps_a = (steps_exactly A productions 9 10 3 (omega arith)).exactly.1 (omega (arith, made_a))

stands_a : (M S : ℕ) → 10 ≤ M → 3 ≤ S → run_a M S ≡ run_a 10 3
stands_a M S h k = more_room A productions 10 3 M S h k verdict_a

-- A stores 3 entries: 2 are not enough, and the third is made by the third closure
closures_room_a : (run_a 10 2).report.closures ≡ 3
unfolding opened small
closures_room_a = refl

room_a : (run_a 10 2).report.answer ≡ OutOfRoom
room_a =
    (room_exactly A productions 10 2 3 10 (omega arith) (omega (arith, closures_room_a)) (omega arith)).exactly.1
    (omega (arith, entries_a_lem))

third_a : OneStored (run_a 10 2) (run_a 3 3)
third_a = subst (λ l. OneStored (run_a 10 2) (run_a l 3)) closures_room_a (one_more A productions 10 2 3 (omega arith) room_a)

saturated_a : AllMade A (In productions) (run_a 10 3).entries
saturated_a = noncircular_saturated A productions 10 3 noncircular_a

-- ---- B
circular_b : (run_b 3 2).report.answer ≡ Circular 0
unfolding opened small
circular_b = refl

root_b : Root B (In productions) (run_b 3 2).entries 0 (run_b 3 2).report.root
root_b = circular_root B productions 3 2 0 circular_b

-- ---- without stale combinations
abbrev fresh_a : ℕ → ℕ → Outcome
fresh_a L R = fresh_passes A L R productions

abbrev fresh_b : ℕ → ℕ → Outcome
fresh_b L R = fresh_passes B L R productions

-- K1 to K8
K-fresh : ◌≡◌ {A = List Line}
    (line (fresh_a 10 3)
    ∷ line (fresh_a 9 3)
    ∷ line (fresh_a 10 2)
    ∷ line (fresh_a 0 0)
    ∷ line (fresh_b 3 2)
    ∷ line (fresh_b 2 2)
    ∷ line (fresh_b 3 1)
    ∷ line (fresh_b 1 1)
    ∷ [])
    ((Noncircular, 4, 3, 3)
    ∷ (Noncircular, 4, 3, 3)
    ∷ (OutOfRoom, 3, 2, 2)
    ∷ (OutOfSteps, 0, 0, 1)
    ∷ (Circular 0, 3, 2, 2)
    ∷ (OutOfSteps, 2, 2, 2)
    ∷ (OutOfRoom, 2, 1, 1)
    ∷ (OutOfSteps, 1, 1, 1)
    ∷ [])
unfolding opened small
K-fresh = refl

-- A is not out of steps, so its entries are those of the passes that try everything
ended_a : (run_a 10 3).report.answer ≡ OutOfSteps → ⊥
ended_a e = subst Verdict e verdict_a

spared_a : Spared (run_a 10 3) (fresh_a 10 3)
spared_a = fresh_spares A productions 10 3 ended_a

-- and 4 closures are made, as many as A has combinations: production 0 has two, the others have one each
distinct_a : Distinct productions
unfolding up_from
distinct_a = distinct_up_from 0 3

noncircular_fresh : (fresh_a 10 3).report.answer ≡ Noncircular
unfolding opened small
noncircular_fresh = refl

counts_a : (fresh_a 10 3).report.closures ≡ sum (map (combinations_of A (fresh_a 10 3).entries) productions)
counts_a = fresh_counts A productions distinct_a 10 3 noncircular_fresh

each_a : map (combinations_of A (fresh_a 10 3).entries) productions ≡ 2 ∷ 1 ∷ 1 ∷ []
unfolding opened small combinations_of product
each_a = refl

-- 3 closures are not enough
made_fresh : (fresh_a 10 3).report.closures ≡ 4
unfolding opened small
made_fresh = refl

steps_fresh : (fresh_a 3 3).report.answer ≡ OutOfSteps
steps_fresh = (fresh_steps A productions 3 10 3 (omega arith)).exactly.1 (omega (arith, made_fresh))

-- B's root is the same
circular_fresh : (fresh_b 3 2).report.answer ≡ Circular 0
unfolding opened small
circular_fresh = refl

root_fresh : Root B (In productions) (fresh_b 3 2).entries 0 (fresh_b 3 2).report.root
root_fresh = fresh_root B productions 3 2 0 circular_fresh

-- the closures, the latest first: production 0 over entry 1 and over entry 0, then 2 and 1
closures_a :
    fresh_closures A productions 10 3 ≡ (0, 1 ∷ []) ∷ (0, 0 ∷ []) ∷ (2, []) ∷ (1, []) ∷ []
unfolding opened small closed closing order_plan passes_order turns_order tries_plan judged
closures_a = refl
