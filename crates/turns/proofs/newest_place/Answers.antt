-- `turns::newest_place` meets its contract. Assumes nothing.
use mathlib.Core.Path.{sym, ◌∙◌}
use Prim.Native.Nat.{◌-◌}
use native.Mathlib.Omega.{arith}
use Rattle.candidates.proofs.Seeking.{next_some}
use Rattle.turns.proofs.Moving.{chosen, newest_none, newest_hit, newest_back}
use Rattle.turns.proofs.newest_place.Goals as goal

pub overflow_cast-result : goal.overflow_cast-result
overflow_cast-result c =
    let h = next_some _ _ _ _ _ (sym c.next_candidate.ensures ∙ c.in-Some.is) in
    omega (arith, h.within, c.from-end.ensures, c.ranges.first.fits)

pub returns-in-Some : goal.returns-in-Some
returns-in-Some c =
    let a = c.args in
    let k = c.loop-place.place - 1 in
    let h =
    chosen a.symbols.now a.rights.now k a.old a.first _ _ _ _ _ c.at.ensures c.from-from.ensures c.from-end.ensures c.next_candidate.ensures
    c.in-Some.is in
    sym (newest_hit a.symbols.now a.rights.now a.old a.first c.loop-place.place c.loop-place-test.true _ h) ∙ c.loop-place.invariant

pub loop-place-preserved : goal.loop-place-preserved
loop-place-preserved c =
    let a = c.args in
    let k = c.loop-place.place - 1 in
    let h =
    chosen a.symbols.now a.rights.now k a.old a.first _ _ _ _ _ c.at.ensures c.from-from.ensures c.from-end.ensures c.next_candidate.ensures
    c.in_default.is in
    sym (newest_back a.symbols.now a.rights.now a.old a.first c.loop-place.place c.loop-place-test.true h) ∙ c.loop-place.invariant

pub returns : goal.returns
returns c =
    let a = c.args in
    sym (newest_none a.symbols.now a.rights.now a.old a.first c.loop-place.place c.loop-place-test.false) ∙ c.loop-place.invariant
