-- `passes::Plan::passes` meets its contract. The invariant: from the state that was reached the passes go on to their outcome.
-- The measure is the free room: each pass but the last stores an entry. Assumes nothing.
use Prim.Native.Nat.{◌-◌}
use Rattle.grammar.specs.Table.{grammar_of}
use Rattle.rules.specs.Test.{system_in}
use Rattle.parts.specs.Rule.{taking}
use Rattle.steps.specs.Lent.{held, Lent}
use Rattle.passes.proofs.Reaching.{Reached}
use Rattle.passes.proofs.Plan.passes.Given as goal

abbrev pub invariant-loop-now : goal.invariant-loop-now
invariant-loop-now l =
    Reached (system_in l.self.table.now) l.limit l.self.room (taking (grammar_of l.self.table.now))
    (held l.initial.store) l.initial.now l.begun (held l.store) l.now
    × Lent l.initial.store l.store

abbrev pub decreases-loop-now : goal.decreases-loop-now
decreases-loop-now l =
    l.self.room - l.now.stored
