-- `walks::SymbolSet::has` meets its contract. Assumes nothing.
use mathlib.Core.Path.{sym, ◌∙◌}
use borrow.Author.Tests.{le-ltb}
use Rattle.parts.proofs.Sets.{not_past}
use Rattle.walks.proofs.Steps.{has_there}
use Rattle.walks.proofs.SymbolSet.has.Goals as goal

pub returns-then-s-lt-MOST_SYMBOLS : goal.returns-then-s-lt-MOST_SYMBOLS
returns-then-s-lt-MOST_SYMBOLS c = has_there c.args.self.now.words c.args.s

pub returns-else-s-lt-MOST_SYMBOLS : goal.returns-else-s-lt-MOST_SYMBOLS
returns-else-s-lt-MOST_SYMBOLS c =
    le-ltb c.args.s 256 c.if-s-lt-MOST_SYMBOLS.false
    ∙ sym (not_past c.args.self.now.words c.args.s c.args.self.now.is_set.four c.if-s-lt-MOST_SYMBOLS.false)
