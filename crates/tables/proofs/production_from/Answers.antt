-- `tables::production_from` meets its contract. Assumes nothing.
use mathlib.Core.Path.{sym, ◌∙◌}
use Rattle.grammar.specs.Table.{production_in}
use Rattle.grammar.proofs.Lookups.{slots_are, slots_by}
use Rattle.tables.proofs.production_from.Goals as goal

pub returns : goal.returns
unfolding production_in
returns c =
    let a = c.args in
    let slots =
    slots_by
    c.two_at.ensures
    c.two_at-2.ensures
    c.two_at-3.ensures
    c.two_at-4.ensures
    c.two_at-5.ensures
    c.two_at-6.ensures
    c.two_at-7.ensures
    ∙ sym (slots_are a.bytes.now 0) in
    λ i. record { left = c.two_at-8.ensures i; n = c.two_at-9.ensures i; slots = slots i }
