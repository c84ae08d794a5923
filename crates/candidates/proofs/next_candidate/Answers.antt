-- `candidates::next_candidate` meets its contract. Assumes nothing.
use mathlib.Core.Path.{sym, ◌∙◌}
use borrow.Author.Tests.{eq-eqb, ne_eqb}
use lib.Dec.{eqb}
use lib.ListN.{get_or}
use Rattle.candidates.proofs.Seeking.{up_hit, up_other, up_none}
use Rattle.candidates.proofs.next_candidate.Goals as goal

pub returns-then-symbols-e : goal.returns-then-symbols-e
returns-then-symbols-e c =
    sym (up_hit (λ i. eqb (get_or c.args.symbols.now i 0) c.args.symbol) _ _ c.loop-e-test.true (eq-eqb _ _ c.if-symbols-e.true))
    ∙ c.loop-e.invariant

pub loop-e-preserved : goal.loop-e-preserved
loop-e-preserved c =
    sym (up_other (λ i. eqb (get_or c.args.symbols.now i 0) c.args.symbol) _ _ c.loop-e-test.true (ne_eqb _ _ c.if-symbols-e.false))
    ∙ c.loop-e.invariant

pub returns : goal.returns
returns c = sym (up_none (λ i. eqb (get_or c.args.symbols.now i 0) c.args.symbol) _ _ c.loop-e-test.false) ∙ c.loop-e.invariant
