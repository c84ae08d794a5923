-- `edges::target_ok` meets its contract. Assumes nothing.
use mathlib.Core.Path.{ap, ◌∙◌}
use lib.Dec.{eqb}
use Rattle.grammar.proofs.Occurrences.{allowed_left, allowed_right}
use Rattle.edges.proofs.target_ok.Goals as goal

pub returns-then-e-eq0 : goal.returns-then-e-eq0
returns-then-e-eq0 c = ap (λ i. eqb i 0) c.inherited-i.ensures ∙ allowed_left c.args.e.target.occurrence _ c.if-e-eq0.true

pub returns-else-e-eq0 : goal.returns-else-e-eq0
returns-else-e-eq0 c = ap (λ i. eqb i 1) c.inherited-i.ensures ∙ allowed_right c.args.e.target.occurrence _ c.if-e-eq0.false
