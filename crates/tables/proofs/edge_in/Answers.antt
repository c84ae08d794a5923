-- `tables::edge_in` meets its contract. Assumes nothing.
use mathlib.Core.Path.{ap, ◌∙◌}
use Prim.Native.Nat.{◌+◌, ◌-◌}
use native.Mathlib.Omega.{arith}
use Rattle.grammar.specs.Table.{edge_in}
use Rattle.grammar.proofs.Lookups.{edge_in_part}
use Rattle.tables.proofs.edge_in.Goals as goal

pub returns-then-end-table : goal.returns-then-end-table
returns-then-end-table c =
    let a = c.args in
    c.edge_from.ensures ∙ edge_in_part a.table.now (a.at + 6 - a.at) a.at 0 a.at (omega arith) (omega arith)

pub returns-else-end-table : goal.returns-else-end-table
returns-else-end-table c =
    let a = c.args in
    c.edge_from-else-end-table.ensures
    ∙ ap (λ bs. edge_in bs 0) c.part_of.ensures
    ∙ edge_in_part a.table.now 6 a.at 0 a.at (omega arith) (omega arith)
