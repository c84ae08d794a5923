-- The report of what was read is that of the whole input. Assumes nothing.
use Rattle.std.proofs.Common.{rules}
use Rattle.circ.proofs.Reading.{answered}
use Rattle.circ.proofs.run.Goals as goal

pub returns : goal.returns
returns g c =
    answered _ (g.R.Read.remaining c.read_input.new.input) _ _ _ c.read_input.new.buf _ c.print_report.ensures (search rules) (search rules) (search rules)
