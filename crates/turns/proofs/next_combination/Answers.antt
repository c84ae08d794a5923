-- `turns::next_combination` meets its contract. Assumes nothing.
use mathlib.Core.Path.{sym, ap, ◌∙◌}
use mathlib.Core.Bool.{true}
use native.Mathlib.Numerals.{add-one}
use Prim.Native.Nat.{suc, ◌-◌}
use native.Mathlib.Omega.{arith}
use Rattle.candidates.proofs.Seeking.{next_some}
use Rattle.turns.specs.Moves.{moved, moved_to}
use Rattle.turns.proofs.Moving.{chosen, found_is, moved_none, moved_hit, moved_back}
use Rattle.turns.proofs.next_combination.Goals as goal

pub overflow_cast-e : goal.overflow_cast-e
overflow_cast-e c =
    let h = next_some _ _ _ _ _ (sym c.next_candidate.ensures ∙ c.in-Some.is) in
    omega (arith, h.within, c.from-end.ensures, c.ranges.first.fits)

pub returns-in-Some : goal.returns-in-Some
returns-in-Some c =
    let a = c.args in
    let h =
    chosen a.symbols.now a.rights.now (c.loop-k.k - 1) _ a.first _ _ _ _ _ c.at-in-loop-k.ensures
    (add-one _ ∙ ap suc (c.from-from.ensures ∙ c.at.ensures)) c.from-end.ensures c.next_candidate.ensures c.in-Some.is in
    found_is
    (ap (moved true) c.put.ensures
    ∙ sym (moved_hit a.symbols.now a.rights.now a.first c.loop-k.k c.loop-k.picked a.firsts.now c.loop-k-test.true _ h)
    ∙ c.loop-k.invariant)

pub loop-k-preserved : goal.loop-k-preserved
loop-k-preserved c =
    let a = c.args in
    let h =
    chosen a.symbols.now a.rights.now (c.loop-k.k - 1) _ a.first _ _ _ _ _ c.at-in-loop-k.ensures
    (add-one _ ∙ ap suc (c.from-from.ensures ∙ c.at.ensures)) c.from-end.ensures c.next_candidate.ensures c.in_default.is in
    ap (moved_to a.symbols.now a.rights.now a.firsts.now a.first (c.loop-k.k - 1)) c.put-in-loop-k.ensures
    ∙ sym (moved_back a.symbols.now a.rights.now a.first c.loop-k.k c.loop-k.picked a.firsts.now c.loop-k-test.true h _ c.at-in-loop-k-2.ensures)
    ∙ c.loop-k.invariant

pub returns : goal.returns
returns c =
    let a = c.args in
    found_is (sym (moved_none a.symbols.now a.rights.now a.first c.loop-k.k c.loop-k.picked a.firsts.now c.loop-k-test.false) ∙ c.loop-k.invariant)
