-- `walks::Record::add_to` meets its contract. The loop's invariant: the right symbols that are left, added to the set, are all of them.
-- Assumes nothing.
use mathlib.Core.Path.{refl, sym, ap, ◌∙◌}
use Prim.Native.Nat.{◌+◌}
use native.Mathlib.Omega.{arith}
use lib.ListN.{drop}
use Rattle.grammar.specs.Grammar.{rights}
use Rattle.parts.specs.Sets.{add, add_all}
use Rattle.walks.proofs.Steps.{all_next, all_done}
use Rattle.walks.proofs.Record.add_to.Goals as goal

pub loop-k-init : goal.loop-k-init
loop-k-init c = refl

pub loop-k-preserved : goal.loop-k-preserved
loop-k-preserved c =
    let ss = rights c.args.self.now in
    let e = c.add.ensures.0 ∙ ap (add c.loop-k.set.words) c.right.ensures in
    ap (λ A. add_all A (drop (c.loop-k.k + 1) ss)) e
    ∙ all_next ss c.loop-k.k c.loop-k.set.words (omega (arith, c.loop-k-test.true, c.count-k-end.ensures))
    ∙ c.loop-k.invariant

pub returns : goal.returns
returns c =
    sym (all_done (rights c.args.self.now) c.loop-k.k c.loop-k.set.words (omega (arith, c.loop-k-test.false, c.count-k-end.ensures)))
    ∙ c.loop-k.invariant
