-- `tables::run_of` meets its contract. Assumes nothing.
use mathlib.Core.Path.{sym, ap, ◌∙◌}
use Prim.Native.Nat.{◌+◌, ◌-◌, ◌*◌}
use native.Mathlib.Omega.{arith}
use lib.ListN.{take, drop}
use Rattle.grammar.proofs.Seeking.{run_none, run_found}
use Rattle.tables.proofs.run_of.Goals as goal

pub returns-then-from-p : goal.returns-then-from-p
returns-then-from-p c =
    let many = ap (λ h. h.productions) c.header_of-h.ensures in
    sym (run_none c.args.table.now c.args.p (omega arith))

pub returns : goal.returns
returns c =
    let a = c.args in
    let many = ap (λ h. h.productions) c.header_of-h.ensures in
    let first = c.seek_from-first in
    let end = c.seek_from-end in
    c.part_of.ensures
    ∙ ap (λ o. take (6 * (end.result - first.result)) (drop (o.edges + 6 * first.result) a.table.now)) c.offsets_of-o.ensures
    ∙ run_found a.table.now a.p _ _ (omega arith) first.ensures.0 end.ensures.0
