-- `tables::edge_at` meets its contract. Assumes nothing.
use mathlib.Core.Path.{sym, ap, ◌∙◌}
use Prim.Native.Nat.{◌+◌, ◌*◌}
use native.Mathlib.Omega.{arith}
use Rattle.grammar.specs.Table.{at_edges, edge_in}
use Rattle.grammar.proofs.Lookups.{edge_past}
use Rattle.tables.proofs.edge_at.Goals as goal

pub returns-then-table-i : goal.returns-then-table-i
returns-then-table-i c =
    let a = c.args in
    c.no_edge.ensures ∙ sym (edge_past a.table.now (at_edges a.table.now + 6 * a.i) (omega arith))

pub returns : goal.returns
returns c =
    let a = c.args in
    c.edge_in.ensures ∙ ap (λ o. edge_in a.table.now (o.edges + 6 * a.i)) c.offsets_of-o.ensures
