-- `passes::test` meets its contract. Assumes nothing.
use mathlib.Core.Path.{◌≡◌, sym, ap, ◌∙◌}
use mathlib.Core.List.{List}
use Prim.Native.Nat.{ℕ, ◌≤◌}
use native.Mathlib.Omega.{arith}
use lib.ListN.{length}
use Rattle.grammar.specs.Table.{grammar_of}
use Rattle.parts.specs.Rule.{taking}
use Rattle.rules.specs.declared.Report.{Report}
use Rattle.rules.specs.Passes.{passes}
use Rattle.rules.specs.Test.{system_in}
use Rattle.rules.proofs.Stored.{Counted, counted_passes_in}
use Rattle.passes.specs.Slices.{Slices, room_of, Tells}
use Rattle.steps.specs.Lent.{held}
use Rattle.passes.proofs.Circles.{saying_told}
use Rattle.passes.proofs.Told.{entries_fit}
use Rattle.passes.proofs.Testing.{passes_taken, test_taken, test_refused, tells_refused, tells_same}
use Rattle.passes.proofs.test.Goals as goal

-- what the passes have left of a table that is taken
module _ (bs : List ℕ) (limit : ℕ) {σ τ : Slices} {r : Report}
    (told : Tells (passes (system_in bs) limit (room_of σ) (taking (grammar_of bs))) σ r τ) where
  stored : Counted (room_of σ) (passes (system_in bs) limit (room_of σ) (taking (grammar_of bs)))
  stored = counted_passes_in bs limit (room_of σ) _

  fits : r.entries ≤ length τ.graphs
  fits =
      omega
      (arith, ap (λ (x : Report). x.entries) told.report, stored.count, (entries_fit _ σ r τ stored.sound.slots told).1)

-- the room of a plan is that of the slices
roomed : {planned room : ℕ} {σ τ : Slices} → planned ≡ room → room ≡ room_of τ → τ ≡ σ → planned ≡ room_of σ
roomed p e h = p ∙ e ∙ ap room_of h

pub returns-in-Err-clause-tested : goal.returns-in-Err-clause-tested
returns-in-Err-clause-tested c =
    tells_refused _ _ _
    (test_refused c.args.table.now _ _ _ (sym c.check-checked.ensures ∙ c.in-Err.is))
    c.no_trail.ensures

pub of-plan-requires : goal.of-plan-requires
of-plan-requires c = sym c.check-checked.ensures ∙ c.in_default.is

pub passes-ending-requires : goal.passes-ending-requires
passes-ending-requires c = roomed c.of-plan.ensures.1 c.room.ensures c.entries.ensures

pub reported-requires : goal.reported-requires
reported-requires c =
    let a = c.args in
    let room = roomed c.of-plan.ensures.1 c.room.ensures c.entries.ensures in
    let told = tells_same (passes_taken a.table.now a.limit (held a.store.now) c.of-plan.ensures.0 room) c.passes-ending.ensures.tells in
    omega (arith, fits a.table.now a.limit told, ap (λ (σ : Slices). length σ.graphs) c.entries-2.ensures)

pub returns-clause-tested : goal.returns-clause-tested
returns-clause-tested c =
    let a = c.args in
    let σ = held a.store.now in
    let room = roomed c.of-plan.ensures.1 c.room.ensures c.entries.ensures in
    let told = tells_same (passes_taken a.table.now a.limit (held a.store.now) c.of-plan.ensures.0 room) c.passes-ending.ensures.tells in
    tells_same (test_taken a.table.now a.limit (room_of σ) (sym c.check-checked.ensures ∙ c.in_default.is))
    (saying_told a.table.now _ σ _ _ (stored a.table.now a.limit told).count told
    (rw (c.of-plan.ensures.0, ap (λ (σ : Slices). σ.graphs) c.entries-2.ensures) at c.reported.ensures))
