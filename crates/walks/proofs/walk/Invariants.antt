-- `walks::walk` meets its contract. The loop's invariant: the walk over the productions that are left gives what the whole walk gives.
-- Assumes nothing.
use mathlib.Core.Path.{◌≡◌}
use lib.ListN.{drop}
use Rattle.grammar.specs.Table.{P, at_productions, grammar_of}
use Rattle.parts.specs.Rule as rule
use Rattle.parts.proofs.Walks.{step}
use Rattle.walks.specs.Walk.{turned, Added}
use Rattle.walks.proofs.walk.Given as goal

abbrev pub invariant-loop-i : goal.invariant-loop-i
invariant-loop-i g l =
    let ps = turned l.up (grammar_of l.table).productions in
    let f = step (g.S.Step.test l.step) (g.S.Step.targets l.step) in
    (l.n ≡ P l.table) × (l.first ≡ at_productions l.table)
    × (rule.walk f (drop l.i ps) l.set.words ≡ rule.walk f ps l.initial.set.words)
    × Added l.initial.set.words l.set.words l.more
