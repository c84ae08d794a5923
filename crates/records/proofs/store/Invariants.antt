-- `records::store` meets its contract. The invariant: the first i entries are stored. Assumes nothing.
use mathlib.Core.Path.{◌≡◌}
use Rattle.numbers.specs.Lists.{written}
use Rattle.steps.specs.Lent.{read}
use Rattle.passes.specs.Slices.{entries_to}
use Rattle.records.proofs.store.Given as goal

abbrev pub invariant-loop-i : goal.invariant-loop-i
invariant-loop-i l = l.row ≡ written (entries_to (read l.entries) l.i) l.initial.row
