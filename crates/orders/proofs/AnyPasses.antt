-- Passes that are the run of an order of turns in the plain mode: what their outcome says, and two limits or two rooms. Assumes nothing.
use mathlib.Core.Path.{◌≡◌, refl, sym, ap, ◌∙◌, subst, subst₂}
use mathlib.Core.List.{List, []}
use Prim.Native.Nat.{ℕ, suc, ◌+◌, ◌<◌}
use native.Mathlib.Omega.{arith}
use lib.ListN.{length}
use Rattle.rules.specs.declared.Answer.{Answer}
use Rattle.rules.specs.declared.Answer.TheVariants.{Noncircular, Circular, Refused, OutOfSteps, OutOfRoom}
use Rattle.rules.specs.declared.Entry.{Entry}
use Rattle.rules.specs.Passes.{System, candidates, Outcome}
use Rattle.orders.specs.Stored.{In, Root, AllMade}
use Rattle.orders.specs.Answers.{Says, Sound, StepsCompared, RoomCompared, OneStored, Verdict}
use Rattle.orders.specs.Claims.{Passes, OutcomeSound, StepsDecide, RoomDecides, OneMore, VerdictStands, MoreRoom}
use Rattle.orders.specs.Modes.{Candidate, AllSettled}
use Rattle.orders.specs.Plans.{Plan, End, run, outcome_of}
use Rattle.orders.specs.Orders.{Combos, Offers, passes_plan_of}
use Rattle.orders.specs.Plain.{offers, plain}
use Rattle.orders.proofs.Combinations.{fits_map, combinations_at, combinations_fit, distinct_combinations, distinct_candidates}
use Rattle.orders.proofs.Limits.{any_steps_exactly, any_room_exactly, any_one_more, any_verdict_stands}
use Rattle.orders.proofs.Sound.{Tells, any_run_told}
use Rattle.orders.proofs.Ordered.{always_passes}
use Rattle.orders.proofs.Plain.{plain_lawful, holds_covered, covered_holds}

-- the candidates of the rules are the entries of the symbol, all of them live
abbrev pub plain_combos : (W : System) → Combos (plain W)
plain_combos W = record {
  of = offers W;
  fit = λ p es c m.
      fits_map es (λ i. i < length es) (Candidate (plain W) es) (λ i k. (k, tt)) c (W.rights p) (combinations_fit es c (W.rights p) m);
  all = λ p es c f.
      combinations_at es c (W.rights p) (fits_map es (Candidate (plain W) es) (λ i. i < length es) (λ i k. k.0) c (W.rights p) f);
  once = λ p es. distinct_combinations (candidates es) (distinct_candidates es) (W.rights p);
}

-- ---- what an end says in the rules' words
module _ (W : System) (ps : List ℕ) (L R : ℕ) where
  saturated : (es : List Entry) → AllSettled (plain W) (In ps) es → AllMade W (In ps) es
  saturated es h p m c f =
      let z = h p m c (fits_map es (λ i. i < length es) (Candidate (plain W) es) (λ i k. (k, tt)) c (W.rights p) f) in
      (z.calm, covered_holds W es (W.left p) (W.graph p _) z.covered)

  said : (e : End (List Entry)) (a : Answer)
      → Tells (plain W) (In ps) L R (AllSettled (plain W) (In ps)) e.store e.root e.made a
      → Says W (In ps) L R (outcome_of (plain W) e) a
  said e Noncircular z = (saturated e.store z.0, z.1)
  said e (Circular p) z = z
  said e (Refused k) z = z
  said e OutOfSteps z = z
  said e OutOfRoom z = (
    z.0,
    record {
      extra = z.1.extra;
      made = z.1.made;
      new = λ h. z.1.new (holds_covered W e.store z.1.extra.symbol z.1.extra.graph h);
    },
    z.2,
  )

-- the passes are the run of their order with any fuel that is enough, and so with the same fuel for two rooms
module _ (P : Passes) (offered : (W : System) → Offers (plain W))
    (runs : (W : System) (ps : List ℕ) (L R fuel : ℕ) → R < fuel
    → P W L R ps ≡ outcome_of (plain W) (run (plain W) L R (passes_plan_of (plain W) (offered W).of ps fuel) [] 0)) where
  abbrev plan_of : System → List ℕ → ℕ → Plan (List Entry)
  plan_of W = passes_plan_of (plain W) (offered W).of

  abbrev run_of : System → List ℕ → ℕ → ℕ → ℕ → End (List Entry)
  run_of W ps fuel L R = run (plain W) L R (plan_of W ps fuel) [] 0

  pub any_sound : OutcomeSound P
  any_sound W ps L R =
      let e = run_of W ps (suc R) L R in
      let z = any_run_told (plain W) (plain_lawful W) (In ps) L R (AllSettled (plain W) (In ps)) (plan_of W ps (suc R))
      (always_passes (plain W) (plain_lawful W) ps R (offered W) (suc R) (omega arith)) in
      subst (Sound W (In ps) L R) (sym (runs W ps L R (suc R) (omega arith)))
      (record {
        made = z.made;
        different = z.different;
        counted = refl;
        entries = z.entries;
        closures = z.closures;
        says = said W ps L R e e.answer z.tells;
      })

  pub any_saturated : (W : System) (ps : List ℕ) (L R : ℕ) → (P W L R ps).report.answer ≡ Noncircular → AllMade W (In ps) (P W L R ps).entries
  any_saturated W ps L R e = (subst (Says W (In ps) L R (P W L R ps)) e (any_sound W ps L R).says).0

  pub any_root : (W : System) (ps : List ℕ) (L R p : ℕ) → (P W L R ps).report.answer ≡ Circular p
      → Root W (In ps) (P W L R ps).entries p (P W L R ps).report.root
  any_root W ps L R p e = subst (Says W (In ps) L R (P W L R ps)) e (any_sound W ps L R).says

  pub any_steps : StepsDecide P
  any_steps W ps L M R h =
      subst₂ (StepsCompared L) (sym (runs W ps L R (suc R) (omega arith))) (sym (runs W ps M R (suc R) (omega arith)))
      (any_steps_exactly (plain W) (plan_of W ps (suc R)) L M R h)

  pub any_room : RoomDecides P
  any_room W ps L R S l h k u =
      let q = runs W ps L R (suc S) (omega arith) in
      subst₂ (RoomCompared R) (sym q) (sym (runs W ps l S (suc S) (omega arith)))
      (any_room_exactly (plain W) (plan_of W ps (suc S)) L R S l h u (omega (arith, ap (λ (o : Outcome). o.report.closures) q)))

  pub any_more : OneMore P
  any_more W ps L R S h a =
      let q = runs W ps L R (suc S) (omega arith) in
      subst (λ (o : Outcome). OneStored o (P W o.report.closures S ps)) (sym q)
      (subst (OneStored (outcome_of (plain W) (run_of W ps (suc S) L R)))
      (sym (runs W ps (run_of W ps (suc S) L R).made S (suc S) (omega arith)))
      (any_one_more (plain W) (plan_of W ps (suc S)) L R S h (ap (λ (o : Outcome). o.report.answer) (sym q) ∙ a)))

  pub any_stands : VerdictStands P
  any_stands W ps L R M S v c e =
      let q = runs W ps L R (suc (R + S)) (omega arith) in
      runs W ps M S (suc (R + S)) (omega arith)
      ∙ ap (outcome_of (plain W))
      (any_verdict_stands (plain W) (plan_of W ps (suc (R + S))) L R M S (subst (λ (o : Outcome). Verdict o.report.answer) q v)
      (omega (arith, ap (λ (o : Outcome). o.report.closures) q)) (omega (arith, ap (λ (o : Outcome). length o.entries) q)))
      ∙ sym q

  pub any_more_room : MoreRoom P
  any_more_room W ps L R M S h k v =
      let z = any_sound W ps L R in
      any_stands W ps L R M S v (omega (arith, z.closures)) (omega (arith, z.entries))
