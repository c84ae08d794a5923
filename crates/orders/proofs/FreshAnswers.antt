-- The passes without stale combinations: beside those of `Passes`, which closures they make, what their outcome says, and two limits or two
-- rooms. Assumes nothing.
use mathlib.Core.Path.{◌≡◌, sym, ap, ◌∙◌, subst, subst₂}
use mathlib.Core.List.Memᴰ
use mathlib.Core.List.{List, [], map, Memᴰ}
use Prim.Native.Nat.{ℕ, suc, ◌≤◌}
use native.Mathlib.Omega.{arith}
use lib.ListN.{length}
use Rattle.numbers.specs.Lists.{Distinct}
use Rattle.numbers.proofs.Pigeons.{pigeons}
use Rattle.rules.specs.declared.Answer.TheVariants.{Noncircular, Circular}
use Rattle.rules.specs.declared.Entry.{Entry}
use Rattle.rules.specs.Passes.{System, candidates, Outcome}
use Rattle.rules.specs.Fresh.{no_turn, fresh_passes}
use Rattle.orders.specs.Stored.{In, Root, AllMade}
use Rattle.orders.specs.Claims.{OutcomeSound, StepsDecide, RoomDecides, OneMore, VerdictStands, MoreRoom}
use Rattle.orders.specs.FreshClaims.{FreshStay, FreshFuel, Spared, FreshSpares, fresh_closures, AllListed, NeverTwice, FreshCounts}
use Rattle.orders.specs.Modes.{Settled}
use Rattle.orders.specs.Plans.{End, run}
use Rattle.orders.specs.Orders.{Order, fresh_of, Offers, passes_order, Careful, passes_plan_of}
use Rattle.orders.specs.Closures.{Closure, sum, combinations_of}
use Rattle.orders.specs.Plain.{offers, plain}
use Rattle.orders.proofs.Combinations.{combinations_at}
use Rattle.orders.proofs.Counting.{every_closure, every_at, every_mem, distinct_every, length_every, length_combinations}
use Rattle.orders.proofs.Since.{swept_start}
use Rattle.orders.proofs.Ordered.{fresh_offers, passes_careful, good_start}
use Rattle.orders.proofs.Skipping.{any_skips, skips_order}
use Rattle.orders.proofs.Closed.{trace_none, logged_order, Closed, any_closed}
use Rattle.orders.proofs.Plain.{plain_lawful}
use Rattle.orders.proofs.Link.{passes_run}
use Rattle.orders.proofs.FreshLink.{fresh_pass_stays, fresh_from_lem, fresh_run}
use Rattle.orders.proofs.AnyPasses.{plain_combos, any_sound, any_saturated, any_root, any_steps, any_room, any_more, any_stands, any_more_room}

-- ---- as of the passes of `Passes`
-- a turn offers what is not stale
abbrev unstaled : (W : System) → Offers (plain W)
unstaled W = fresh_offers (plain W) (plain_combos W)

pub fresh_stay : FreshStay
fresh_stay W ps L R since s h k = fresh_pass_stays W L R ps since s h k

pub fresh_fuel : FreshFuel
fresh_fuel W ps L R fuel h = fresh_from_lem W ps L R fuel (suc R) h (omega arith) ∙ sym (fresh_run W ps L R (suc R) (omega arith))

pub fresh_sound : OutcomeSound fresh_passes
fresh_sound = any_sound fresh_passes unstaled fresh_run

pub fresh_saturated : (W : System) (ps : List ℕ) (L R : ℕ) → (fresh_passes W L R ps).report.answer ≡ Noncircular
    → AllMade W (In ps) (fresh_passes W L R ps).entries
fresh_saturated = any_saturated fresh_passes unstaled fresh_run

pub fresh_root : (W : System) (ps : List ℕ) (L R p : ℕ) → (fresh_passes W L R ps).report.answer ≡ Circular p
    → Root W (In ps) (fresh_passes W L R ps).entries p (fresh_passes W L R ps).report.root
fresh_root = any_root fresh_passes unstaled fresh_run

pub fresh_steps : StepsDecide fresh_passes
fresh_steps = any_steps fresh_passes unstaled fresh_run

pub fresh_room : RoomDecides fresh_passes
fresh_room = any_room fresh_passes unstaled fresh_run

pub fresh_one_more : OneMore fresh_passes
fresh_one_more = any_more fresh_passes unstaled fresh_run

pub fresh_stands : VerdictStands fresh_passes
fresh_stands = any_stands fresh_passes unstaled fresh_run

pub fresh_more_room : MoreRoom fresh_passes
fresh_more_room = any_more_room fresh_passes unstaled fresh_run

-- ---- beside them
module _ (W : System) (ps : List ℕ) (R : ℕ) where
  abbrev order : Order (List Entry)
  order = passes_order length (suc R) ps 0 []

  careful : Careful (plain W) (In ps) R order no_turn []
  careful = passes_careful (plain W) R ps (suc R) (omega arith)

pub fresh_spares : FreshSpares
fresh_spares W ps L R x =
    let q = passes_run W ps L R (suc R) (omega arith) in
    let g = good_start (plain W) (plain_lawful W) ps R in
    let z = any_skips (plain W) (plain_lawful W) (In ps) R L
    (skips_order (plain W) (plain_lawful W) (In ps) R (plain_combos W) (order W ps R) no_turn [] g
    (swept_start (plain W) [] (Settled (plain W) [])) (careful W ps R))
    g 0 0 (omega arith) (λ a. x (ap (λ (o : Outcome). o.report.answer) q ∙ a)) in
    subst₂ Spared (sym q) (sym (fresh_run W ps L R (suc R) (omega arith)))
    (record {
      answer = z.answer;
      root = z.root;
      entries = z.store;
      counted = ap length z.store;
      passes = z.begun;
      closures = z.made;
    })

-- ---- the closures
abbrev fresh_end : System → List ℕ → ℕ → ℕ → End (List Entry)
fresh_end W ps L R = run (plain W) L R (passes_plan_of (plain W) (fresh_of (offers W)) ps (suc R)) [] 0

closures_made : (W : System) (ps : List ℕ) (L R : ℕ)
    → Closed (plain W) (plain_lawful W) (In ps) L R (fresh_end W ps L R) (fresh_closures W ps L R)
closures_made W ps L R =
    any_closed (plain W) (plain_lawful W) (In ps) L R (passes_plan_of (plain W) (fresh_of (offers W)) ps (suc R))
    (logged_order (plain W) (plain_lawful W) (In ps) R (plain_combos W) (order W ps R) no_turn [] []
    (good_start (plain W) (plain_lawful W) ps R) (trace_none (plain W) (plain_lawful W) (In ps) [])
    (swept_start (plain W) [] (λ q d. Memᴰ {A = Closure} (q, d) [])) (λ x m. absurd (Memᴰ.not-nil m)) (careful W ps R))

pub all_listed : AllListed
all_listed W ps L R =
    (closures_made W ps L R).count ∙ sym (ap (λ (o : Outcome). o.report.closures) (fresh_run W ps L R (suc R) (omega arith)))

pub never_twice : NeverTwice
never_twice W ps L R = (closures_made W ps L R).once

-- as many as all combinations: each of the closures is one of them, and each of them was closed
counted : (W : System) (ps : List ℕ) → Distinct ps → (L R : ℕ) → (fresh_end W ps L R).answer ≡ Noncircular
    → (fresh_end W ps L R).made ≡ sum (map (combinations_of W (fresh_end W ps L R).store) ps)
unfolding combinations_of
counted W ps d L R a =
    let z = closures_made W ps L R in
    let es : List Entry = (fresh_end W ps L R).store in
    let xs = fresh_closures W ps L R in
    let combos : ℕ → List (List ℕ) = λ p. offers W p es in
    let all = every_closure combos ps in
    let up : length xs ≤ length all
    = pigeons xs all z.once
    (λ x m. let r = z.ready x m in every_at combos ps x.0 x.1 r.part (combinations_at es x.1 (W.rights x.0) r.fits)) in
    let down : length all ≤ length xs
    = pigeons all xs (distinct_every combos (λ p. (plain_combos W).once p es) ps d)
    (λ x m. let r = every_mem combos ps x m in z.over a x.0 r.0 x.1 ((plain_combos W).fit x.0 es x.1 r.1)) in
    let same : length xs ≡ length all = omega arith in
    sym z.count ∙ same ∙ length_every combos ps
    ∙ ap (λ (f : ℕ → ℕ). sum (map f ps)) (λ i p. length_combinations (candidates es) (W.rights p) i)

pub fresh_counts : FreshCounts
fresh_counts W ps d L R a =
    let q = fresh_run W ps L R (suc R) (omega arith) in
    subst (λ (o : Outcome). o.report.closures ≡ sum (map (combinations_of W o.entries) ps)) (sym q)
    (counted W ps d L R (ap (λ (o : Outcome). o.report.answer) (sym q) ∙ a))
