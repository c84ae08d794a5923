-- `tables::step_further` meets its contract. Assumes nothing.
use mathlib.Core.Path.{◌≡◌, sym, ap, ◌∙◌}
use Prim.Native.Nat.{◌+◌, ◌-◌, ◌*◌}
use native.Mathlib.Omega.{arith}
use Rattle.numbers.specs.Number.{le2}
use Rattle.grammar.specs.Search.{producing}
use Rattle.grammar.proofs.Seeking.{further_few, further_on, further_not}
use Rattle.tables.proofs.step_further.Goals as goal

pub returns-then-from-next : goal.returns-then-from-next
returns-then-from-next c =
    let a = c.args in
    let e = ap (λ h. h.edges) c.requires.0 in
    sym (further_few a.table.now a.p a.step a.at (omega arith))

pub returns-then-from-p : goal.returns-then-from-p
returns-then-from-p c =
    let a = c.args in
    let pre = c.requires in
    let e = ap (λ h. h.edges) pre.0 in
    let last : c.two_at-last.result ≡ producing a.table.now (a.at + a.step - 1) = c.two_at-last.ensures ∙ ap (λ o. le2 a.table.now (o.edges + 6 * (a.at + a.step - 1))) pre.1 in
    sym (further_on a.table.now a.p a.step a.at (omega arith) (omega arith))

pub returns-else-from-p : goal.returns-else-from-p
returns-else-from-p c =
    let a = c.args in
    let pre = c.requires in
    let e = ap (λ h. h.edges) pre.0 in
    let last : c.two_at-last.result ≡ producing a.table.now (a.at + a.step - 1) = c.two_at-last.ensures ∙ ap (λ o. le2 a.table.now (o.edges + 6 * (a.at + a.step - 1))) pre.1 in
    sym (further_not a.table.now a.p a.step a.at (omega arith) (omega arith))
