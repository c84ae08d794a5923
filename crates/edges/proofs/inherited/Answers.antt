-- `edges::inherited` meets its contract. Assumes nothing.
use borrow.Author.Rules.{rules}
use Rattle.grammar.proofs.Occurrences.{bit_beyond}
use Rattle.edges.proofs.inherited.Goals as goal

pub returns-then-attribute-gt15 : goal.returns-then-attribute-gt15
returns-then-attribute-gt15 c = bit_beyond c.args.attribute c.args.s.mask (search rules) c.if-attribute-gt15.true
