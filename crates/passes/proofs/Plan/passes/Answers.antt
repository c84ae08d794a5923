-- `passes::Plan::passes` meets its contract. The invariant: from the state that was reached the passes go on to their outcome.
-- The measure is the free room: each pass but the last stores an entry. Assumes nothing.
use mathlib.Core.Path.{◌≡◌, refl, sym}
use mathlib.Core.List.{List}
use Prim.Native.Nat.{ℕ, ◌+◌, ◌≤◌}
use native.Mathlib.Omega.{arith}
use Rattle.rules.specs.declared.Answer.TheVariants.{Noncircular}
use Rattle.std.specs.Prelude.{Result, Ok, Err}
use Rattle.steps.specs.declared.Run.{Run}
use Rattle.steps.specs.declared.Stop.{Stop}
use Rattle.rules.specs.Passes.{System, no_root, pass, passes}
use Rattle.rules.specs.Test.{system_in}
use Rattle.passes.specs.Slices.{Slices, room_of, Tells}
use Rattle.passes.specs.Follow.{run_in, Follows, Kept, Roomy, unsaid, ending_of}
use Rattle.steps.proofs.Lending.{lent_same, lent_then}
use Rattle.passes.proofs.Following.{kept_then, kept_roomy}
use Rattle.passes.proofs.Reaching.{roomy_start, tells, Reached, reached_start, reached_more, ends_stop, ends_done}
use Rattle.passes.proofs.Plan.passes.Goals as goal

-- in the loop, which began with room in the slices for as many entries as they hold; and after a pass
module _ {W : System} {limit room begun : ℕ} {ps : List ℕ} {σ₀ σ : Slices} {r : Run}
    (held : room ≡ room_of σ₀) (reached : Reached W limit room ps σ₀ (record { left = limit; stored = 0 }) begun σ r) where
  abbrev r₀ : Run
  r₀ = record { left = limit; stored = 0 }

  roomy : Roomy room σ r
  roomy = kept_roomy room σ₀ r₀ σ r reached.kept (roomy_start room σ₀ r₀ held refl)

  module _ {τ : Slices} {q : Result Run Stop} (followed : Follows room (λ limit. pass W limit room ps) σ r τ q) where
    kept : Kept room σ₀ r₀ τ (run_in q)
    kept = kept_then room σ₀ r₀ σ r reached.kept τ (run_in q) followed.kept

    roomy_then : Roomy room τ (run_in q)
    roomy_then = kept_roomy room σ r τ (run_in q) followed.kept roomy

    -- so what is left and what is stored fit an ending
    fits : ((run_in q).left ≤ limit) × ((run_in q).stored ≤ 4096)
    fits = (omega (arith, kept.left), omega (arith, roomy_then.stored, roomy_then.small))

  module _ {τ : Slices} {q : Stop} (followed : Follows room (λ limit. pass W limit room ps) σ r τ (Err q)) where
    stops : Tells (passes W limit room ps) σ₀ (unsaid (ending_of q.answer q.root limit q.run (begun + 1))) τ
    stops =
        tells _ room limit σ₀ r₀ τ q.run _ _ _ (ends_stop W limit room ps σ₀ r₀ refl begun σ r reached τ q followed) (kept followed)
        (roomy_then followed)

  module _ {τ : Slices} {q : Run} (followed : Follows room (λ limit. pass W limit room ps) σ r τ (Ok q)) where
    done : q.stored ≡ r.stored → Tells (passes W limit room ps) σ₀ (unsaid (ending_of Noncircular no_root limit q (begun + 1))) τ
    done e =
        tells _ room limit σ₀ r₀ τ q _ _ _ (ends_done W limit room ps σ₀ r₀ refl begun σ r reached τ q followed e) (kept followed)
        (roomy_then followed)

    more : (q.stored ≡ r.stored → ⊥) → Reached W limit room ps σ₀ r₀ (begun + 1) τ q
    more ne = reached_more W limit room ps σ₀ r₀ refl begun σ r reached τ q followed ne

pub loop-now-init : goal.loop-now-init
loop-now-init c = (reached_start (system_in c.args.self.now.table.now) c.args.limit c.args.self.now.room _ _ _ refl refl, lent_same _)

pub pass-requires : goal.pass-requires
pass-requires c = roomy c.requires c.loop-now.invariant.0

pub returns-in-Err-clause-tells : goal.returns-in-Err-clause-tells
returns-in-Err-clause-tells c =
    rw c.ended.ensures (stops c.requires c.loop-now.invariant.0 (rw (sym c.in-Err.is) c.pass.ensures.follows))

pub returns-then-now-before-clause-tells : goal.returns-then-now-before-clause-tells
returns-then-now-before-clause-tells c =
    rw c.ended-then-now-before.ensures
    (done c.requires c.loop-now.invariant.0 (rw (sym c.in-Ok.is) c.pass.ensures.follows) c.if-now-before.true)

pub loop-now-preserved : goal.loop-now-preserved
loop-now-preserved c = (
  more c.requires c.loop-now.invariant.0 (rw (sym c.in-Ok.is) c.pass.ensures.follows) c.if-now-before.false,
  lent_then c.loop-now.invariant.1 c.pass.ensures.lent,
)
