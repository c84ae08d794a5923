-- `tables::production_of` meets its contract. Assumes nothing.
use mathlib.Core.Path.{sym, ap, ◌∙◌}
use Prim.Native.Nat.{◌+◌, ◌*◌}
use native.Mathlib.Omega.{arith}
use Rattle.grammar.specs.Table.{production_in}
use Rattle.grammar.proofs.Lookups.{production_there, production_none}
use Rattle.tables.proofs.production_of.Goals as goal

pub returns-then-from-p : goal.returns-then-from-p
returns-then-from-p c =
    let a = c.args in
    let many = ap (λ h. h.productions) c.header_of-h.ensures in
    sym (production_none a.table.now a.p (omega arith))

pub returns : goal.returns
returns c =
    let a = c.args in
    let many = ap (λ h. h.productions) c.header_of-h.ensures in
    c.production_in.ensures
    ∙ ap (λ o. production_in a.table.now (o.productions + 18 * a.p)) c.offsets_of-o.ensures
    ∙ sym (production_there a.table.now a.p (omega arith))
