-- `tables::symbol_of` meets its contract. Assumes nothing.
use mathlib.Core.Path.{◌≡◌, sym, ap, ◌∙◌}
use Prim.Native.Nat.{◌+◌, ◌*◌}
use native.Mathlib.Omega.{arith}
use Rattle.grammar.specs.Table.{symbol_in}
use Rattle.grammar.proofs.Lookups.{symbol_there, symbol_none}
use Rattle.tables.proofs.symbol_of.Goals as goal

pub returns-then-from-s : goal.returns-then-from-s
returns-then-from-s c =
    let a = c.args in
    let many = ap (λ h. h.symbols) c.header_of-h.ensures in
    sym (symbol_none a.table.now a.s (omega arith))

pub returns : goal.returns
unfolding symbol_in
returns c =
    let a = c.args in
    let many = ap (λ h. h.symbols) c.header_of-h.ensures in
    let mask = c.from-2.ensures ∙ c.byte_at-2.ensures in
    let r : record { count = c.byte_at.result; mask = c.from-2.result } ≡ symbol_in a.table.now (24 + 2 * a.s) = λ i. record { count = c.byte_at.ensures i; mask = mask i } in
    r ∙ sym (symbol_there a.table.now a.s (omega arith))
