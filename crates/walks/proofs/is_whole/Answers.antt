-- `walks::is_whole` meets its contract. Assumes nothing.
use mathlib.Core.Path.{ap}
use lib.Dec.{leb}
use lib.ListN.{length}
use Rattle.grammar.specs.declared.Offsets.{Offsets}
use Rattle.walks.proofs.is_whole.Goals as goal

pub returns : goal.returns
returns c = ap (λ (o : Offsets). leb o.edges (length c.args.table.now)) c.offsets_of.ensures
