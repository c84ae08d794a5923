-- `passes::Plan::pass` meets its contract. The invariant: the turns of the productions passed are followed. Assumes nothing.
use Prim.Native.Nat.{◌≤◌, ◌-◌}
use Rattle.std.specs.Prelude.{Ok}
use Rattle.numbers.specs.Lists.{up_from}
use Rattle.rules.specs.Test.{system_in}
use Rattle.passes.specs.Follow.{Follows}
use Rattle.steps.specs.Lent.{held, Lent}
use Rattle.passes.proofs.Passing.{part_by, through}
use Rattle.passes.proofs.Plan.pass.Given as goal

abbrev pub invariant-loop-number : goal.invariant-loop-number
invariant-loop-number l =
    (l.number ≤ l.count)
    × Follows l.self.room
    (through (system_in l.self.table.now) l.self.room (part_by l.self.part.treed.words l.self.part.reached.words l.self.table.now)
    (up_from 0 l.number))
    (held l.initial.store) l.initial.now (held l.store) (Ok l.now)
    × Lent l.initial.store l.store

abbrev pub decreases-loop-number : goal.decreases-loop-number
decreases-loop-number l =
    l.count - l.number
