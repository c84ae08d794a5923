-- `reads::slots_below` meets its contract. Assumes nothing.
use Rattle.std.proofs.Common.{◌∙◌, rules, tests, ltb}
use Rattle.std.proofs.lemmas.Iterator.{YieldsList-from_slice}
use Rattle.std.proofs.lemmas.Iterator.Search.{all_from_yields_List}
use Rattle.numbers.proofs.Every.{every_is}
use Rattle.reads.proofs.slots_below.Goals as goal

pub returns : goal.returns
returns c =
    let slots = c.args.slots.now in
    all_from_yields_List (λ s. ltb s c.args.bound) _ _ c.all.result c.all.ensures.ran (YieldsList-from_slice slots cc) (λ x b q k. search (rules, tests))
    ∙ every_is (λ s. ltb s c.args.bound) slots
