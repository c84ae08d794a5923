-- `walks::grown_out` meets its contract. The loop's invariant: the set has what it began with, and keeps within what is looked for. The measure
-- is how many symbols it does not have. Assumes nothing.
use Rattle.grammar.specs.Table.{grammar_of}
use Rattle.walks.proofs.Loops.{nearer, out_begun, done, kept, found}
use Rattle.walks.proofs.grown_out.Goals as goal

pub loop-set-init : goal.loop-set-init
loop-set-init g c =
    let x = c.args.step.now in
    let b = c.args.begun in (
      (λ s h. h),
      out_begun (g.S.Step.test x) (g.S.Step.targets x) (g.met.S.Step.more x) (grammar_of c.args.table.now).productions b.words b.is_set,
    )

pub loop-set-smaller : goal.loop-set-smaller
loop-set-smaller g c = nearer _ _ _ c.walk.ensures.1 c.if-walk.true

pub loop-set-preserved : goal.loop-set-preserved
loop-set-preserved g c =
    let x = c.args.step.now in
    let b = c.args.begun in
    kept (g.S.Step.test x) (g.S.Step.targets x) (g.met.S.Step.more x) (grammar_of c.args.table.now).productions b.words b.is_set
    c.loop-set.set.words c.loop-set.set.is_set c.loop-set.invariant.0 c.loop-set.invariant.1 c.loop-set.up _ _ c.walk.ensures.0 c.walk.ensures.1

pub returns-else-walk : goal.returns-else-walk
returns-else-walk g c =
    let x = c.args.step.now in
    let b = c.args.begun in
    found (g.S.Step.test x) (g.S.Step.targets x) (g.met.S.Step.more x) (grammar_of c.args.table.now).productions b.words b.is_set
    c.loop-set.set.words c.loop-set.set.is_set c.loop-set.invariant.0 c.loop-set.invariant.1 c.loop-set.up _ _ c.walk.ensures.0 c.walk.ensures.1
    c.if-walk.false

pub returns-after-loop-set : goal.returns-after-loop-set
returns-after-loop-set g c =
    let x = c.args.step.now in
    let b = c.args.begun in
    done (g.S.Step.test x) (g.S.Step.targets x) (g.met.S.Step.more x) (grammar_of c.args.table.now).productions b.words b.is_set
    c.loop-set.set.words c.loop-set.set.is_set c.loop-set.invariant.0 c.loop-set.invariant.1
    (λ p m pass s k l. c.is_done.ensures c.loop-set-test.false p pass s k)
