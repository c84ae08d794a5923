-- The passes of `Passes` are the run of an order of turns in the plain mode. Assumes nothing.
use mathlib.Core.Path.{◌≡◌, refl, sym, ap, ◌∙◌, subst}
use mathlib.Core.Bool.{Bool, true, false, cond}
use mathlib.Core.List.{List, [], ◌∷◌, ◌++◌}
use Prim.Native.Nat.{ℕ, zero, suc, ◌-◌, ◌<◌, ◌≤◌}
use native.Mathlib.Omega.{arith}
use lib.Dec.{leb, eqb}
use lib.ListN.{length, length-append}
use borrow.Author.Tests.{eqb-false}
use Rattle.rules.specs.declared.Answer.TheVariants.{Noncircular}
use Rattle.rules.specs.declared.Entry.{Entry}
use Rattle.rules.specs.Passes.{System, State, Ran, going, stopped, and_then, numbered, seven, no_root, graphs, known, stop_if, go_on_if, counted, stored, try, tries, turn, pass, outcome, after, empty, passes_from, passes}
use Rattle.rules.specs.Fresh.{Since, no_turn, began}
use Rattle.rules.proofs.Steps.{by_tests}
use Rattle.orders.specs.Answers.{comes_to, Passed}
use Rattle.orders.specs.Modes.{new_entry}
use Rattle.orders.specs.Plans.{Plan, End, ends, tried, run, outcome_of, tries_plan}
use Rattle.orders.specs.Orders.{Order, over, turn as turn_of, order_plan, all_of, turns_order, after_turns, passes_order, passes_plan_of}
use Rattle.orders.specs.Plain.{judged, offers, plain}
use Rattle.orders.proofs.Limits.{Ended, ended}

-- after some of the pass number n
abbrev pub then_ends : ℕ → Ran → (State → End (List Entry)) → End (List Entry)
then_ends n (going s) more = more s
then_ends n (stopped a root s) more = ends a root s.entries s.made n

-- a pass that stores something leaves less room
pub less_room : (s t : State) {L R : ℕ} → Passed L R s t → eqb (length t.entries) (length s.entries) ≡ false
    → R - length t.entries < R - length s.entries
less_room s t z e =
    let d : length t.entries ≡ length s.entries → ⊥ = eqb-false (length t.entries) (length s.entries) e in
    omega (arith, z.entries, ap length z.stays.1, length-append s.entries z.stays.0)

module _ (W : System) (L R : ℕ) where
  abbrev pub run_from : (List Entry → Plan (List Entry)) → State → End (List Entry)
  run_from f s = run (plain W) L R (f s.entries) s.entries s.made

  pub run_tries : (n p : ℕ) (cs : List (List ℕ)) (f : List Entry → Plan (List Entry)) (s : State)
      → run_from (tries_plan n p cs f) s ≡ then_ends n (tries W L R p cs s) (run_from f)
  unfolding run tried tries_plan tries try stop_if go_on_if judged numbered
  run_tries n p [] f s = refl
  run_tries n p (c ∷ cs) f s =
      go (leb L s.made) (W.circle p (graphs s.entries c))
      (known (W.left p) (W.graph p (graphs s.entries c)) s.entries) (leb R (length s.entries)) (run_tries n p cs f)
    where
      new : Entry
      new = new_entry W p c s.entries

      go : (a b k d : Bool) → ((t : State) → run_from (tries_plan n p cs f) t ≡ then_ends n (tries W L R p cs t) (run_from f))
          → tried a (judged b k (s.entries ++ (new ∷ []))) d n p c s.entries s.made
          (λ t m. run (plain W) L R (tries_plan n p cs f t) t m)
          ≡ then_ends n (and_then (by_tests a b k d p (seven c) s (stored new (counted s))) (tries W L R p cs)) (run_from f)
      go true b k d ih = refl
      go false true k d ih = refl
      go false false true d ih = ih (counted s)
      go false false false true ih = refl
      go false false false false ih = ih (stored new (counted s))

  -- ---- turns that try every combination
  abbrev all_plan : Order (List Entry) → Since → List Entry → Plan (List Entry)
  all_plan = order_plan length (all_of (offers W))

  -- where every combination is tried, it is all the same when turns began
  any_since : (o : Order (List Entry)) (since since' : Since) (es : List Entry) → all_plan o since es ≡ all_plan o since' es
  unfolding order_plan
  any_since (over n) since since' es = refl
  any_since (turn_of n p f) since since' es =
      ap (λ k. tries_plan n p (offers W p es) k es) (λ i t. any_since (f t) (began p (length es) since) (began p (length es) since') t i)

  abbrev all_from : (List Entry → Order (List Entry)) → Since → State → End (List Entry)
  all_from f since = run_from (λ es. all_plan (f es) since es)

  run_pass : (n : ℕ) (ps : List ℕ) (f : List Entry → Order (List Entry)) (since since' : Since) (s : State)
      → all_from (turns_order n ps f) since s ≡ then_ends n (pass W L R ps s) (all_from f since')
  unfolding turns_order order_plan pass turn
  run_pass n [] f since since' s =
      ap (λ P. run (plain W) L R P s.entries s.made) (any_since (f s.entries) since since' s.entries)
  run_pass n (p ∷ ps) f since since' s =
      run_tries n p (offers W p s.entries) (λ es. all_plan (turns_order n ps f es) now es) s
      ∙ go (turn W L R p s) (run_pass n ps f now since')
    where
      now : Since
      now = began p (length s.entries) since

      go : (r : Ran) → ((t : State) → all_from (turns_order n ps f) now t ≡ then_ends n (pass W L R ps t) (all_from f since'))
          → then_ends n r (all_from (turns_order n ps f) now) ≡ then_ends n (and_then r (pass W L R ps)) (all_from f since')
      go (going t) ih = ih t
      go (stopped a root t) ih = refl

  pub pass_stays : (ps : List ℕ) (s : State) → s.made ≤ L → length s.entries ≤ R → Passed L R s (comes_to (pass W L R ps s))
  unfolding order_plan run
  pass_stays ps s h k =
      go (pass W L R ps s)
      (subst (Ended (plain W) L R s.entries s.made) (run_pass 0 ps (λ u. over 0) no_turn no_turn s)
      (ended (plain W) L R (all_plan (turns_order 0 ps (λ u. over 0) s.entries) no_turn s.entries) s.entries s.made h k))
    where
      go : (r : Ran) → Ended (plain W) L R s.entries s.made (then_ends 0 r (all_from (λ u. over 0) no_turn)) → Passed L R s (comes_to r)
      go (stopped a root t) z = record { stays = z.stays; counts = z.counts; closures = z.closures; entries = z.entries }
      go (going t) z = record { stays = z.stays; counts = z.counts; closures = z.closures; entries = z.entries }

  -- with enough fuel the passes are the run of their order: a pass that stores something leaves less room, so the fuel is never used up
  run_passes : (fuel more : ℕ) (ps : List ℕ) (n : ℕ) (since : Since) (s : State) → s.made ≤ L → length s.entries ≤ R
      → R - length s.entries < fuel → R - length s.entries < more
      → passes_from W L R fuel ps n s ≡ outcome_of (plain W) (all_from (passes_order length more ps n) since s)
  unfolding passes_from passes_order order_plan run
  run_passes zero more ps n since s h k a b = absurd (omega arith)
  run_passes (suc fuel) zero ps n since s h k a b = absurd (omega arith)
  run_passes (suc fuel) (suc more) ps n since s h k a b =
      go (pass W L R ps s) (pass_stays ps s h k) (run_passes fuel more ps (suc n) since)
      ∙ ap (outcome_of (plain W)) (sym (run_pass (suc n) ps afterwards since since s))
    where
      afterwards : List Entry → Order (List Entry)
      afterwards = after_turns length (suc n) (length s.entries) (passes_order length more ps (suc n))

      go : (r : Ran) → Passed L R s (comes_to r)
          → ((t : State) → t.made ≤ L → length t.entries ≤ R → R - length t.entries < fuel → R - length t.entries < more
          → passes_from W L R fuel ps (suc n) t ≡ outcome_of (plain W) (all_from (passes_order length more ps (suc n)) since t))
          → after s (suc n) r (passes_from W L R fuel ps (suc n)) ≡ outcome_of (plain W) (then_ends (suc n) r (all_from afterwards since))
      go (stopped c root t) z ih = refl
      go (going t) z ih = by (eqb (length t.entries) (length s.entries)) refl
        where
          by : (c : Bool) → eqb (length t.entries) (length s.entries) ≡ c
              → cond c (outcome Noncircular no_root t (suc n)) (passes_from W L R fuel ps (suc n) t)
              ≡ outcome_of (plain W) (all_from (λ es. cond c (over (suc n)) (passes_order length more ps (suc n) es)) since t)
          by true e = refl
          by false e =
              let l = less_room s t z e in
              ih t z.closures z.entries (omega arith) (omega arith)

-- ---- from the start, for any fuel that is enough
module _ (W : System) (ps : List ℕ) (L R : ℕ) where
  pub passes_from_lem : (fuel more : ℕ) → R < fuel → R < more
      → passes_from W L R fuel ps 0 empty ≡ outcome_of (plain W) (run (plain W) L R (passes_plan_of (plain W) (all_of (offers W)) ps more) [] 0)
  passes_from_lem fuel more h k = run_passes W L R fuel more ps 0 no_turn empty (omega arith) (omega arith) (omega arith) (omega arith)

  pub passes_run : (fuel : ℕ) → R < fuel
      → passes W L R ps ≡ outcome_of (plain W) (run (plain W) L R (passes_plan_of (plain W) (all_of (offers W)) ps fuel) [] 0)
  unfolding passes
  passes_run fuel h = passes_from_lem (suc R) fuel (omega arith) h
