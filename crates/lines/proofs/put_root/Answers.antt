-- The pieces in their order. Assumes nothing.
use Rattle.texts.specs.Lines.{root_line}
use Rattle.lines.proofs.put_root.Goals as goal

pub returns : goal.returns
unfolding root_line
returns c = rw (c.word.ensures, c.kids.ensures.text, c.number.ensures.text, c.from.ensures, c.new-line.ensures) at c.put.ensures
