-- The passes without stale combinations are the run of an order of turns in the plain mode. Assumes nothing.
use mathlib.Core.Path.{◌≡◌, refl, sym, ap, ◌∙◌, subst}
use mathlib.Core.Bool.{Bool, true, false, cond}
use mathlib.Core.List.{List, [], ◌∷◌}
use Prim.Native.Nat.{ℕ, zero, suc, ◌-◌, ◌<◌, ◌≤◌}
use native.Mathlib.Omega.{arith}
use lib.Dec.{eqb}
use lib.ListN.{length}
use Rattle.rules.specs.declared.Answer.TheVariants.{Noncircular}
use Rattle.rules.specs.declared.Entry.{Entry}
use Rattle.rules.specs.Passes.{System, State, Ran, going, stopped, no_root, outcome, empty}
use Rattle.rules.specs.Fresh.{Since, no_turn, began, unstale, Went, goes, stops, followed_by, fresh_turn, fresh_pass, after_fresh, fresh_passes_from, fresh_passes}
use Rattle.orders.specs.Answers.{Passed}
use Rattle.orders.specs.Plans.{End, ends, run, outcome_of}
use Rattle.orders.specs.Orders.{Order, over, order_plan, fresh_of, turns_order, after_turns, passes_order, passes_plan_of}
use Rattle.orders.specs.Plain.{offers, plain}
use Rattle.orders.specs.FreshClaims.{went_to}
use Rattle.orders.proofs.Limits.{Ended, ended}
use Rattle.orders.proofs.Link.{then_ends, less_room, run_from, run_tries}

-- after some of the pass number n
abbrev then_went : ℕ → Went → (Since → State → End (List Entry)) → End (List Entry)
then_went n (goes since s) more = more since s
then_went n (stops a root s) more = ends a root s.entries s.made n

module _ (W : System) (L R : ℕ) where
  abbrev fresh_from : (List Entry → Order (List Entry)) → Since → State → End (List Entry)
  fresh_from f since = run_from W L R (λ es. order_plan length (fresh_of (offers W)) (f es) since es)

  run_fresh_pass : (n : ℕ) (ps : List ℕ) (f : List Entry → Order (List Entry)) (since : Since) (s : State)
      → fresh_from (turns_order n ps f) since s ≡ then_went n (fresh_pass W L R ps since s) (fresh_from f)
  unfolding turns_order order_plan fresh_pass fresh_turn
  run_fresh_pass n [] f since s = refl
  run_fresh_pass n (p ∷ ps) f since s =
      run_tries W L R n p (unstale (since p) (offers W p s.entries))
      (λ es. order_plan length (fresh_of (offers W)) (turns_order n ps f es) now es) s
      ∙ go (fresh_turn W L R p since s) (run_fresh_pass n ps f now)
    where
      now : Since
      now = began p (length s.entries) since

      go : (r : Ran) → ((t : State) → fresh_from (turns_order n ps f) now t ≡ then_went n (fresh_pass W L R ps now t) (fresh_from f))
          → then_ends n r (fresh_from (turns_order n ps f) now) ≡ then_went n (followed_by r (fresh_pass W L R ps now)) (fresh_from f)
      go (going t) ih = ih t
      go (stopped a root t) ih = refl

  pub fresh_pass_stays : (ps : List ℕ) (since : Since) (s : State) → s.made ≤ L → length s.entries ≤ R
      → Passed L R s (went_to (fresh_pass W L R ps since s))
  unfolding order_plan run
  fresh_pass_stays ps since s h k =
      go (fresh_pass W L R ps since s)
      (subst (Ended (plain W) L R s.entries s.made) (run_fresh_pass 0 ps (λ u. over 0) since s)
      (ended (plain W) L R (order_plan length (fresh_of (offers W)) (turns_order 0 ps (λ u. over 0) s.entries) since s.entries) s.entries
      s.made h k))
    where
      go : (r : Went) → Ended (plain W) L R s.entries s.made (then_went 0 r (fresh_from (λ u. over 0))) → Passed L R s (went_to r)
      go (stops a root t) z = record { stays = z.stays; counts = z.counts; closures = z.closures; entries = z.entries }
      go (goes now t) z = record { stays = z.stays; counts = z.counts; closures = z.closures; entries = z.entries }

  run_fresh : (fuel more : ℕ) (ps : List ℕ) (n : ℕ) (since : Since) (s : State) → s.made ≤ L → length s.entries ≤ R
      → R - length s.entries < fuel → R - length s.entries < more
      → fresh_passes_from W L R fuel ps n since s ≡ outcome_of (plain W) (fresh_from (passes_order length more ps n) since s)
  unfolding fresh_passes_from passes_order order_plan run
  run_fresh zero more ps n since s h k a b = absurd (omega arith)
  run_fresh (suc fuel) zero ps n since s h k a b = absurd (omega arith)
  run_fresh (suc fuel) (suc more) ps n since s h k a b =
      go (fresh_pass W L R ps since s) (fresh_pass_stays ps since s h k) (run_fresh fuel more ps (suc n))
      ∙ ap (outcome_of (plain W)) (sym (run_fresh_pass (suc n) ps afterwards since s))
    where
      afterwards : List Entry → Order (List Entry)
      afterwards = after_turns length (suc n) (length s.entries) (passes_order length more ps (suc n))

      go : (r : Went) → Passed L R s (went_to r)
          → ((now : Since) (t : State) → t.made ≤ L → length t.entries ≤ R → R - length t.entries < fuel
          → R - length t.entries < more
          → fresh_passes_from W L R fuel ps (suc n) now t ≡ outcome_of (plain W) (fresh_from (passes_order length more ps (suc n)) now t))
          → after_fresh s (suc n) r (fresh_passes_from W L R fuel ps (suc n)) ≡ outcome_of (plain W) (then_went (suc n) r (fresh_from afterwards))
      go (stops c root t) z ih = refl
      go (goes now t) z ih = by (eqb (length t.entries) (length s.entries)) refl
        where
          by : (c : Bool) → eqb (length t.entries) (length s.entries) ≡ c
              → cond c (outcome Noncircular no_root t (suc n)) (fresh_passes_from W L R fuel ps (suc n) now t)
              ≡ outcome_of (plain W) (fresh_from (λ es. cond c (over (suc n)) (passes_order length more ps (suc n) es)) now t)
          by true e = refl
          by false e =
              let l = less_room s t z e in
              ih now t z.closures z.entries (omega arith) (omega arith)

-- ---- from the start, for any fuel that is enough
module _ (W : System) (ps : List ℕ) (L R : ℕ) where
  pub fresh_from_lem : (fuel more : ℕ) → R < fuel → R < more
      → fresh_passes_from W L R fuel ps 0 no_turn empty
      ≡ outcome_of (plain W) (run (plain W) L R (passes_plan_of (plain W) (fresh_of (offers W)) ps more) [] 0)
  fresh_from_lem fuel more h k = run_fresh W L R fuel more ps 0 no_turn empty (omega arith) (omega arith) (omega arith) (omega arith)

  pub fresh_run : (fuel : ℕ) → R < fuel
      → fresh_passes W L R ps ≡ outcome_of (plain W) (run (plain W) L R (passes_plan_of (plain W) (fresh_of (offers W)) ps fuel) [] 0)
  unfolding fresh_passes
  fresh_run fuel h = fresh_from_lem (suc R) fuel (omega arith) h
