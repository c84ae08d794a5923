-- `tables::production_in` meets its contract. Assumes nothing.
use mathlib.Core.Path.{ap, ◌∙◌}
use Prim.Native.Nat.{◌+◌, ◌-◌}
use native.Mathlib.Omega.{arith}
use Rattle.grammar.specs.Table.{production_in}
use Rattle.grammar.proofs.Lookups.{production_in_part}
use Rattle.tables.proofs.production_in.Goals as goal

pub returns-then-end-table : goal.returns-then-end-table
returns-then-end-table c =
    let a = c.args in
    c.production_from.ensures ∙ production_in_part a.table.now (a.at + 18 - a.at) a.at 0 a.at (omega arith) (omega arith)

pub returns-else-end-table : goal.returns-else-end-table
returns-else-end-table c =
    let a = c.args in
    c.production_from-else-end-table.ensures
    ∙ ap (λ bs. production_in bs 0) c.part_of.ensures
    ∙ production_in_part a.table.now 18 a.at 0 a.at (omega arith) (omega arith)
