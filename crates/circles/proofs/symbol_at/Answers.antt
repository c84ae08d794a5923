-- `circles::symbol_at` meets its contract. Assumes nothing.
use native.Mathlib.Omega.{arith}
use Rattle.grammar.proofs.Occurrences.{at_left, at_right}
use Rattle.circles.proofs.symbol_at.Goals as goal

pub returns-then-occurrence-eq0 : goal.returns-then-occurrence-eq0
returns-then-occurrence-eq0 c = at_left c.args.production c.args.occurrence (omega arith)

pub returns : goal.returns
returns c = at_right c.args.production c.args.occurrence c.if-occurrence-eq0.false (omega arith)
