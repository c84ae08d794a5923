-- `edges::symbol_at` meets its contract. Assumes nothing.
use Rattle.std.proofs.Common.{◌∙◌, ap, arith, ◌+◌, ◌-◌, ◌*◌}
use Rattle.numbers.specs.Number.{le2}
use Rattle.grammar.specs.Table.{production_in}
use Rattle.grammar.proofs.Lookups.{left_in, slot_in, slots_many}
use Rattle.grammar.proofs.Occurrences.{at_left, at_right, at_none}
use Rattle.edges.proofs.symbol_at.Goals as goal

pub returns-then-occurrence-eq0 : goal.returns-then-occurrence-eq0
returns-then-occurrence-eq0 c =
    c.from.ensures
    ∙ c.two_at.ensures
    ∙ left_in c.args.table.now c.args.at
    ∙ at_left (production_in c.args.table.now c.args.at) c.args.occurrence c.if-occurrence-eq0.true

pub returns-then-k-min : goal.returns-then-k-min
returns-then-k-min c =
    let n = c.requires.1 in
    c.from-then-k-min.ensures
    ∙ c.two_at-then-k-min.ensures
    ∙ ap (λ k. le2 c.args.table.now (c.args.at + 4 + 2 * k)) c.from-k.ensures
    ∙ slot_in c.args.table.now c.args.at (c.args.occurrence - 1) (omega arith)
    ∙ at_right (production_in c.args.table.now c.args.at) c.args.occurrence c.if-occurrence-eq0.false (omega arith)

pub returns-else-k-min : goal.returns-else-k-min
returns-else-k-min c =
    let n = c.requires.1 in
    at_none (production_in c.args.table.now c.args.at) c.args.occurrence c.if-occurrence-eq0.false
    (omega (arith, slots_many c.args.table.now c.args.at))
