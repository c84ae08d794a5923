-- `passes::Plan::turn` meets its contract. Assumes nothing.
use mathlib.Core.Bool.{Bool, true, false}
use mathlib.Core.List.{List}
use mathlib.Core.Path.{◌≡◌, refl, sym, ap, ◌∙◌, subst}
use Prim.Native.Nat.{ℕ, ◌≤◌}
use native.Mathlib.Omega.{arith}
use lib.ListN.{length, replicate}
use Rattle.std.specs.Prelude.{Ok}
use Rattle.grammar.specs.declared.Production.{Production}
use Rattle.grammar.specs.Grammar.{production}
use Rattle.grammar.specs.Table.{grammar_of}
use Rattle.grammar.specs.Reading.{run_of}
use Rattle.grammar.specs.Refusal.{refusal}
use Rattle.graph.proofs.Tables.{few_rights}
use Rattle.parts.specs.Rule.{takes_part}
use Rattle.std.specs.Prelude.{Ok}
use Rattle.steps.specs.declared.Run.{Run}
use Rattle.steps.specs.declared.Task.{Task}
use Rattle.rules.specs.Passes.{turn}
use Rattle.rules.specs.Test.{system_in}
use Rattle.turns.specs.Moves.{Moved, Found, firsts_to}
use Rattle.turns.specs.Turning.{of_symbol, Numbers, Firsts, Begins}
use Rattle.turns.proofs.Turning.{begins}
use Rattle.passes.specs.Slices.{Slices}
use Rattle.passes.specs.Follow.{Follows, Roomy, task_of}
use Rattle.passes.proofs.Combining.{over_none}
use Rattle.passes.proofs.Passing.{part_by, part_turn, part_skip, part_still}
use Rattle.passes.proofs.Tables.{few_productions, turn_ready, task_turn}
use Rattle.passes.proofs.Plan.turn.Goals as goal

-- the first candidates are looked for, of as many right symbols as the production has
module _ (bs : List ℕ) (good : refusal bs ≡ Ok tt) (p room : ℕ) (σ : Slices) (run : Run) (roomy : Roomy room σ run) (found : Production)
    (read : found ≡ production (grammar_of bs) p) where
  slots_are : found.slots ≡ (production (grammar_of bs) p).slots
  slots_are = ap (λ (x : Production). x.slots) read

  few : found.n ≤ 7
  few = rw read (few_rights bs good p)

  held : run.stored ≤ length σ.symbols
  held = omega (arith, roomy.stored, roomy.symbols)

  abbrev first_of : ℕ → Moved
  first_of n = firsts_to σ.symbols found.slots run.stored n (replicate 7 0)

  begun : {n : ℕ} → n ≡ found.n → Begins (of_symbol σ.symbols found.slots) run.stored found.n (first_of n)
  begun e =
      subst (λ (n : ℕ). Begins (of_symbol σ.symbols found.slots) run.stored found.n (first_of n)) (sym e)
      (begins σ.symbols σ.symbols found.slots run.stored found.n few held (λ i l. refl))

  made : task_of p found room ≡ task_of p (production (grammar_of bs) p) room
  made = ap (λ (x : Production). task_of p x room) read

  -- in what the store holds
  module _ {n : ℕ} (all : n ≡ found.n) {symbols firsts : List ℕ} {more : Bool} (same : symbols ≡ σ.symbols)
      (found_in : Found (firsts_to symbols found.slots run.stored n (replicate 7 0)) more firsts) where
    looked : Found (first_of n) more firsts
    looked = subst (λ (xs : List ℕ). Found (firsts_to xs found.slots run.stored n (replicate 7 0)) more firsts) same found_in

    -- there is none
    nothing : more ≡ false → Follows room (λ limit. turn (system_in bs) limit room p) σ run σ (Ok run)
    unfolding task_of
    nothing h =
        task_turn bs good p room σ run (task_of p found room) made found.slots slots_are (run_of bs p) refl σ (Ok run)
        (over_none (task_of p found room) found.slots (run_of bs p) σ run _ ((begun all).none (sym looked.more_is ∙ h)) roomy.stored)

    -- the turn has its task
    module _ (some : more ≡ true) (k : Task) (is : k ≡ task_of p found room) where
      count_is : found.n ≡ k.count
      unfolding task_of
      count_is = ap (λ (t : Task). t.count) (sym is)

      numbers : Numbers k.count run.stored firsts
      numbers =
          subst (λ (xs : List ℕ). Numbers k.count run.stored xs) (sym looked.numbers_are)
          (subst (λ (i : ℕ). Numbers i run.stored (first_of n).numbers) count_is ((begun all).numbers (sym looked.more_is ∙ some)))

      each : Firsts (of_symbol σ.symbols found.slots) run.stored k.count firsts
      each =
          subst (λ (xs : List ℕ). Firsts (of_symbol σ.symbols found.slots) run.stored k.count xs) (sym looked.numbers_are)
          (subst (λ (i : ℕ). Firsts (of_symbol σ.symbols found.slots) run.stored i (first_of n).numbers) count_is
          ((begun all).firsts (sym looked.more_is ∙ some)))

-- what the test of the production says
told : (treed reached : List ℕ) (found asked : Production) (b : Bool) → found ≡ asked → b ≡ takes_part treed reached found
    → b ≡ takes_part treed reached asked
told treed reached found asked b read e = e ∙ ap (takes_part treed reached) read

pub returns-then-not-first_candidates-clause-follows : goal.returns-then-not-first_candidates-clause-follows
returns-then-not-first_candidates-clause-follows c =
    let a = c.args in
    let plan = a.self.now in
    let p = c.production_of-production in
    part_still (system_in plan.table.now) plan.room (part_by plan.part.treed.words plan.part.reached.words plan.table.now) a.number _
    a.run c.requires.1.stored
    (nothing plan.table.now plan.taken a.number plan.room _ a.run c.requires.1 p.result p.ensures c.wide-count.ensures
    (ap (λ (σ : Slices). σ.symbols) c.entries.ensures) c.first_candidates.ensures c.if-not-first_candidates.true)

pub returns-then-not-has-clause-follows : goal.returns-then-not-has-clause-follows
returns-then-not-has-clause-follows c =
    let a = c.args in
    let plan = a.self.now in
    let p = c.production_of-production in
    let part = told plan.part.treed.words plan.part.reached.words p.result _ _ p.ensures c.has.ensures in
    part_skip (system_in plan.table.now) plan.room (part_by plan.part.treed.words plan.part.reached.words plan.table.now) a.number _
    a.run (sym part ∙ c.if-not-has.true) c.requires.1.stored

pub task_of-task-requires : goal.task_of-task-requires
task_of-task-requires c = omega (arith, c.requires.0, few_productions c.args.self.now.table.now c.args.self.now.taken)

pub combine-requires : goal.combine-requires
combine-requires c =
    let a = c.args in
    let plan = a.self.now in
    let p = c.production_of-production in
    let k = c.task_of-task in
    let looked = c.first_candidates.ensures in
    let same = ap (λ (σ : Slices). σ.symbols) c.entries.ensures in
    let some = c.if-not-first_candidates.false in (
      turn_ready plan.table.now plan.taken a.number plan.room _ a.run c.requires.1 k.result
          (k.ensures ∙ made plan.table.now plan.taken a.number plan.room _ a.run c.requires.1 p.result p.ensures) p.result.slots
          (slots_are plan.table.now plan.taken a.number plan.room _ a.run c.requires.1 p.result p.ensures),
      numbers plan.table.now plan.taken a.number plan.room _ a.run c.requires.1 p.result p.ensures c.wide-count.ensures same looked some k.result
          k.ensures,
      each plan.table.now plan.taken a.number plan.room _ a.run c.requires.1 p.result p.ensures c.wide-count.ensures same looked some k.result
          k.ensures,
    )

pub returns-clause-follows : goal.returns-clause-follows
returns-clause-follows c =
    let a = c.args in
    let plan = a.self.now in
    let p = c.production_of-production in
    let k = c.task_of-task in
    let part = told plan.part.treed.words plan.part.reached.words p.result _ _ p.ensures c.has.ensures in
    part_turn (system_in plan.table.now) plan.room (part_by plan.part.treed.words plan.part.reached.words plan.table.now) a.number _
    a.run (sym part ∙ c.if-not-has.false) _ _
    (task_turn plan.table.now plan.taken a.number plan.room _ a.run k.result
    (k.ensures ∙ made plan.table.now plan.taken a.number plan.room _ a.run c.requires.1 p.result p.ensures) p.result.slots
    (slots_are plan.table.now plan.taken a.number plan.room _ a.run c.requires.1 p.result p.ensures) _ c.run_of-edges.ensures _ _
    c.combine.ensures.follows)
