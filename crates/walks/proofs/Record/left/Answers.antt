-- `walks::Record::left` meets its contract. Assumes nothing.
use mathlib.Core.Path.{◌∙◌}
use Rattle.walks.proofs.Steps.{left_read}
use Rattle.walks.proofs.Record.left.Goals as goal

pub returns : goal.returns
returns c = c.two_at.ensures ∙ left_read _ c.self.view_is
