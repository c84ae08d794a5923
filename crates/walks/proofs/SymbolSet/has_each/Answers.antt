-- `walks::SymbolSet::has_each` meets its contract. Assumes nothing.
use mathlib.Core.Path.{◌∙◌}
use Rattle.std.proofs.Common.{rules, tests}
use Rattle.std.proofs.lemmas.Iterator.{YieldsList-from_slice}
use Rattle.std.proofs.lemmas.Iterator.Search.{all_from_yields_List}
use Rattle.parts.specs.Sets.{has}
use Rattle.walks.proofs.Steps.{every_is}
use Rattle.walks.proofs.SymbolSet.has_each.Goals as goal

pub returns : goal.returns
returns c =
    let A = c.args.self.now.words in
    all_from_yields_List (has A) _ _ _ c.all.ensures.ran (YieldsList-from_slice c.args.symbols.now cc) (λ x b q k. search (rules, tests))
    ∙ every_is (has A) c.args.symbols.now
