-- `passes::combine` meets its contract. The invariant: what is done, the picked combination and what comes after it are all combinations
-- of the turn. The measure is how many come after. Assumes nothing.
use mathlib.Core.Path.{◌≡◌, sym, ap, ◌∙◌, subst}
use mathlib.Core.Bool.{Bool, true}
use mathlib.Core.List.{List, ◌∷◌}
use Prim.Native.Nat.{ℕ, ◌≤◌}
use native.Mathlib.Omega.{arith}
use lib.ListN.{length, take}
use Rattle.std.proofs.lemmas.Result.{err_from_is_err_and}
use Rattle.std.specs.Prelude.{Result, Ok, Err}
use Rattle.steps.specs.declared.Run.{Run}
use Rattle.steps.specs.declared.Stop.{Stop}
use Rattle.steps.specs.declared.Task.{Task}
use Rattle.steps.specs.declared.Verdict.{Verdict}
use Rattle.steps.specs.Step.{Tried, run_at, counts}
use Rattle.rules.specs.Passes.{try}
use Rattle.turns.specs.Moves.{Moved, Found, moved_to}
use Rattle.turns.specs.Turning.{of_symbol, Numbers, Firsts, GoesOn}
use Rattle.turns.proofs.Odometer.{begins}
use Rattle.turns.proofs.Turning.{numbers_long}
use Rattle.turns.proofs.Turning as turning
use Rattle.passes.specs.Slices.{Slices}
use Rattle.passes.specs.Follow.{Kept, Follows, InTurn, system_by, over, combos_in}
use Rattle.steps.specs.declared.Store.{Store}
use Rattle.steps.specs.Lent.{Lent}
use Rattle.steps.proofs.Lending.{lent_same, lent_then}
use Rattle.passes.proofs.Following.{kept_ready}
use Rattle.passes.proofs.Six.{follows_tried, tried_left}
use Rattle.passes.proofs.Combining.{symbols_stay, Left, left_start, left_same, left_end, left_stopped, left_tried}
use Rattle.passes.proofs.combine.Invariants.{after}
use Rattle.passes.proofs.combine.Goals as goal

-- in the loop
module _ {k : Task} {rights firsts edges picked : List ℕ} {r₀ r : Run} {σ₀ σ : Slices} {s₀ s : Store}
    (pre : InTurn k rights r₀.stored σ₀ r₀
    × Numbers k.count r₀.stored firsts × Firsts (of_symbol σ₀.symbols rights) r₀.stored k.count firsts)
    (inv : Left k rights edges (combos_in k rights r₀.stored σ₀.symbols) σ₀ r₀
    (take k.count picked ∷ after σ₀.symbols rights r₀.stored k picked) σ r
    × Numbers k.count r₀.stored picked × Lent s₀ s) where
  abbrev first : ℕ
  first = r₀.stored

  abbrev all : List (List ℕ)
  all = combos_in k rights first σ₀.symbols

  abbrev later : List (List ℕ)
  later = after σ₀.symbols rights first k picked

  ready : InTurn k rights first σ r
  ready = kept_ready k rights first σ₀ r₀ σ _ pre.0 inv.0.follows.kept

  -- after the try
  module _ {v : Verdict} {τ : Slices} (tried : Tried k edges picked r.left r.stored σ v τ) where
    -- a closure that is counted was left
    one_left : counts v ≡ true → 1 ≤ r.left
    one_left = tried_left k rights edges first σ r picked ready inv.1 v τ tried

    followed : {q : Result Run Stop} → q ≡ run_at v k.number picked r.left r.stored
        → Follows k.room (λ limit. try (system_by k rights edges) limit k.room k.number (take k.count picked)) σ r τ q
    followed is = rw is (follows_tried k rights edges first σ r picked ready inv.1 v τ tried)

    -- the run stops
    stops : {q : Stop} → Err q ≡ run_at v k.number picked r.left r.stored → Follows k.room (over k rights edges all) σ₀ r₀ τ (Err q)
    stops is = left_stopped k rights edges all σ₀ r₀ σ r _ later inv.0 τ _ (followed is)

    -- it goes on
    module _ {q : Run} (is : Ok q ≡ run_at v k.number picked r.left r.stored) where
      rest : Left k rights edges all σ₀ r₀ later τ q
      rest = left_tried k rights edges all σ₀ r₀ σ r _ later inv.0 τ q (followed is)

      kept : Kept k.room σ₀ r₀ τ q
      kept = rest.follows.kept

      -- after the move to the next combination
      abbrev m : Moved
      m = moved_to τ.symbols rights firsts first k.count picked

      moved : GoesOn (of_symbol σ₀.symbols rights) first k.count picked m
      moved =
          turning.goes_on σ₀.symbols τ.symbols rights first k.count ready.few
          (omega (arith, ready.first_held, ready.roomy.stored, pre.0.roomy.symbols, kept.symbols.long))
          (symbols_stay k.room σ₀ r₀ τ q kept first pre.0.first_held) firsts pre.1 pre.2 picked inv.1

      -- as the store holds it
      looked : {symbols xs : List ℕ} {more : Bool} → symbols ≡ τ.symbols → Found (moved_to symbols rights firsts first k.count picked) more xs
          → Found m more xs
      looked {xs} {more} same found = subst (λ (l : List ℕ). Found (moved_to l rights firsts first k.count picked) more xs) same found

      -- there is one
      further : {more : Bool} {xs : List ℕ} → Found m more xs → more ≡ true → later ≡ take k.count xs ∷ after σ₀.symbols rights first k xs
      further found h =
          moved.next (sym found.more_is ∙ h)
          ∙ ap (λ (xs : List ℕ). take k.count xs ∷ after σ₀.symbols rights first k xs) (sym found.numbers_are)

pub loop-now-init : goal.loop-now-init
loop-now-init c =
    let t = c.args.task in (
      left_start t c.args.rights.now c.args.edges.now _ _ _ _
          (begins (of_symbol c.args.store.now.symbols.now c.args.rights.now) c.args.run.stored t.count c.args.firsts.now
          (omega (arith, c.requires.0.few, numbers_long t.count c.args.run.stored c.args.firsts.now c.requires.0.few c.requires.1)) c.requires.2)
          c.requires.0.roomy.stored,
      c.requires.1,
      lent_same _,
    )

pub run_after-requires : goal.run_after-requires
run_after-requires c =
    let now = ready c.requires c.loop-now.invariant in
    (one_left c.requires c.loop-now.invariant c.try_one-verdict.ensures.tried, omega (arith, now.roomy.stored, now.roomy.small))

-- the run stops
pub returns-in_err-now-clause-follows : goal.returns-in_err-now-clause-follows
returns-in_err-now-clause-follows c =
    let w = err_from_is_err_and c.from_residual.result c.from_residual.ensures.1 in
    rw (w.1, w.2) (stops c.requires c.loop-now.invariant c.try_one-verdict.ensures.tried (sym c.in_err-now.was ∙ c.run_after.ensures))

-- there is no further combination
pub returns-then-not-more-clause-follows : goal.returns-then-not-more-clause-follows
returns-then-not-more-clause-follows c =
    let l = c.loop-now in
    let t = c.try_one-verdict.ensures.tried in
    let is = sym c.in_ok-now.was ∙ c.run_after.ensures in
    let n = looked c.requires l.invariant t is (ap (λ (σ : Slices). σ.symbols) c.entries.ensures) c.next_combination-more.ensures in
    left_end _ _ _ _ _ _ _ _ _ (rest c.requires l.invariant t is)
    ((moved c.requires l.invariant t is).none (sym n.more_is ∙ c.if-not-more.true))

pub loop-now-smaller : goal.loop-now-smaller
loop-now-smaller c =
    let l = c.loop-now in
    let t = c.try_one-verdict.ensures.tried in
    let is = sym c.in_ok-now.was ∙ c.run_after.ensures in
    let n = looked c.requires l.invariant t is (ap (λ (σ : Slices). σ.symbols) c.entries.ensures) c.next_combination-more.ensures in
    let fewer = ap length (further c.requires l.invariant t is n c.if-not-more.false) in
    omega (arith, fewer)

pub loop-now-preserved : goal.loop-now-preserved
loop-now-preserved c =
    let l = c.loop-now in
    let t = c.try_one-verdict.ensures in
    let is = sym c.in_ok-now.was ∙ c.run_after.ensures in
    let n = looked c.requires l.invariant t.tried is (ap (λ (σ : Slices). σ.symbols) c.entries.ensures) c.next_combination-more.ensures in (
      left_same _ _ _ _ _ _ _ _ _ (rest c.requires l.invariant t.tried is) _ (further c.requires l.invariant t.tried is n c.if-not-more.false),
      subst (Numbers c.args.task.count c.args.run.stored) (sym n.numbers_are) (moved c.requires l.invariant t.tried is).numbers,
      lent_then l.invariant.2 t.lent,
    )
