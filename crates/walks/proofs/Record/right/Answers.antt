-- `walks::Record::right` meets its contract. Assumes nothing.
use mathlib.Core.Path.{◌∙◌}
use native.Mathlib.Omega.{arith}
use Rattle.walks.proofs.Steps.{seven_rights, right_read}
use Rattle.walks.proofs.Record.right.Goals as goal

pub overflow_mul-k : goal.overflow_mul-k
overflow_mul-k c = record { fits = omega (arith, c.requires, seven_rights _ c.self.view_is) }

pub overflow_add-k : goal.overflow_add-k
overflow_add-k c = record { fits = omega (arith, c.requires, seven_rights _ c.self.view_is) }

pub returns : goal.returns
returns c = c.two_at.ensures ∙ right_read _ c.self.view_is c.args.k c.requires
