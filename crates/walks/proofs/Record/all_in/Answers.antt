-- `walks::Record::all_in` meets its contract. The right symbols that are left, from k on, pass the test exactly if all of them do. Assumes nothing.
use mathlib.Core.Path.{refl, sym, ap, ◌∙◌}
use native.Mathlib.Omega.{arith}
use Rattle.numbers.proofs.Every.{passes_at, fails_at, passes_all}
use Rattle.grammar.specs.Grammar.{rights}
use Rattle.parts.specs.Sets.{has}
use Rattle.walks.proofs.Record.all_in.Goals as goal

pub loop-k-init : goal.loop-k-init
loop-k-init c = refl

pub returns-then-not-has : goal.returns-then-not-has
returns-then-not-has c =
    let A = c.args.set.now.words in
    let f = ap (has A) (sym c.right.ensures) ∙ sym c.has.ensures ∙ c.if-not-has.true in
    sym (fails_at (has A) (rights c.args.self.now) 0 c.loop-k.k (omega (arith, c.loop-k-test.true, c.count-k-end.ensures)) f)
    ∙ c.loop-k.invariant

pub loop-k-preserved : goal.loop-k-preserved
loop-k-preserved c =
    let A = c.args.set.now.words in
    let f = ap (has A) (sym c.right.ensures) ∙ sym c.has.ensures ∙ c.if-not-has.false in
    passes_at (has A) (rights c.args.self.now) 0 c.loop-k.k (omega (arith, c.loop-k-test.true, c.count-k-end.ensures)) f
    ∙ c.loop-k.invariant

pub returns : goal.returns
returns c =
    sym (passes_all (has c.args.set.now.words) (rights c.args.self.now) 0 c.loop-k.k (omega (arith, c.loop-k-test.false, c.count-k-end.ensures)))
    ∙ c.loop-k.invariant
