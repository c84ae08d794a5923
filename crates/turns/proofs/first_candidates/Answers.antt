-- `turns::first_candidates` meets its contract. Assumes nothing.
use mathlib.Core.Path.{refl, sym, ap, ◌∙◌}
use Prim.Native.Nat.{◌-◌}
use native.Mathlib.Omega.{arith}
use Rattle.candidates.proofs.Seeking.{next_some}
use Rattle.turns.specs.Moves.{firsts_to}
use Rattle.turns.proofs.Moving.{chosen, found_is, firsts_none, firsts_more, firsts_miss}
use Rattle.turns.proofs.first_candidates.Goals as goal

pub overflow_cast-e : goal.overflow_cast-e
overflow_cast-e c =
    let h = next_some _ _ _ _ _ (sym c.next_candidate.ensures ∙ c.in-Some.is) in
    omega (arith, h.within, c.from-end.ensures, c.ranges.first.fits)

pub loop-k-preserved : goal.loop-k-preserved
loop-k-preserved c =
    let a = c.args in
    let h =
    chosen a.symbols.now a.rights.now (c.loop-k.k - 1) 0 a.first _ _ _ _ _ c.at.ensures refl c.from-end.ensures c.next_candidate.ensures
    c.in-Some.is in
    ap (firsts_to a.symbols.now a.rights.now a.first (c.loop-k.k - 1)) c.put.ensures
    ∙ sym (firsts_more a.symbols.now a.rights.now a.first c.loop-k.k c.loop-k.firsts c.loop-k-test.true _ h)
    ∙ c.loop-k.invariant

pub returns-in-None : goal.returns-in-None
returns-in-None c =
    let a = c.args in
    let h =
    chosen a.symbols.now a.rights.now (c.loop-k.k - 1) 0 a.first _ _ _ _ _ c.at.ensures refl c.from-end.ensures c.next_candidate.ensures
    c.in-None.is in
    found_is (sym (firsts_miss a.symbols.now a.rights.now a.first c.loop-k.k c.loop-k.firsts c.loop-k-test.true h) ∙ c.loop-k.invariant)

pub returns : goal.returns
returns c =
    let a = c.args in
    found_is (sym (firsts_none a.symbols.now a.rights.now a.first c.loop-k.k c.loop-k.firsts c.loop-k-test.false) ∙ c.loop-k.invariant)
