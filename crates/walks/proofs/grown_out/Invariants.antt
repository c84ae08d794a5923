-- `walks::grown_out` meets its contract. The loop's invariant: the set has what it began with, and keeps within what is looked for. The measure
-- is how many symbols it does not have. Assumes nothing.
use Prim.Native.Nat.{◌-◌}
use Rattle.grammar.specs.Table.{grammar_of}
use Rattle.parts.specs.Rule as rule
use Rattle.parts.proofs.Sets.{Within}
use Rattle.parts.proofs.Sizes.{size}
use Rattle.parts.proofs.Walks.{step}
use Rattle.walks.proofs.grown_out.Given as goal

abbrev pub invariant-loop-set : goal.invariant-loop-set
invariant-loop-set g l =
    let f = step (g.S.Step.test l.step) (g.S.Step.targets l.step) in
    Within l.fn.begun.words l.set.words × Within l.set.words (rule.grown_out (rule.walk f (grammar_of l.table).productions) l.fn.begun.words)

abbrev pub decreases-loop-set : goal.decreases-loop-set
decreases-loop-set g l = 256 - size l.set.words
