-- `passes::Plan::pass` meets its contract. The invariant: the turns of the productions passed are followed. Assumes nothing.
use mathlib.Core.Path.{◌≡◌, sym, ap, ◌∙◌, subst}
use mathlib.Core.List.{List}
use Prim.Native.Nat.{ℕ}
use borrow.Author.Rules.{rules}
use native.Mathlib.Omega.{arith}
use Rattle.std.proofs.lemmas.Result.{err_from_is_err_and}
use Rattle.std.specs.Prelude.{Result}
use Rattle.numbers.specs.Lists.{up_from}
use Rattle.grammar.specs.declared.Header.{Header}
use Rattle.grammar.specs.Table.{P, grammar_of}
use Rattle.grammar.specs.Reading.{header_of}
use Rattle.parts.specs.Rule.{taking}
use Rattle.rules.specs.Passes.{pass}
use Rattle.rules.specs.Test.{system_in}
use Rattle.passes.specs.Slices.{Slices}
use Rattle.passes.specs.Follow.{Follows, parts_among}
use Rattle.steps.specs.declared.Run.{Run}
use Rattle.steps.specs.declared.Stop.{Stop}
use Rattle.steps.proofs.Lending.{lent_same, lent_then}
use Rattle.passes.proofs.Following.{kept_roomy}
use Rattle.passes.proofs.Passing.{part_by, through, pass_start, pass_more, pass_stopped}
use Rattle.passes.proofs.Plan.pass.Goals as goal

-- as many productions as the header says
counted : (bs : List ℕ) (h : Header) (n : ℕ) → h ≡ header_of bs → n ≡ h.productions → n ≡ P bs
counted bs h n e f = f ∙ ap (λ (h : Header). h.productions) e

-- over as many productions as a plan has, what takes part has been gone over
over_all : (bs treed reached : List ℕ) {room n : ℕ} {σ τ : Slices} {r : Run} {q : Result Run Stop}
    → parts_among treed reached (grammar_of bs) (up_from 0 (P bs)) ≡ taking (grammar_of bs) → n ≡ P bs
    → Follows room (through (system_in bs) room (part_by treed reached bs) (up_from 0 n)) σ r τ q
    → Follows room (λ limit. pass (system_in bs) limit room (taking (grammar_of bs))) σ r τ q
over_all bs treed reached {room} {n} {σ} {τ} {r} {q} parts e f =
    subst (λ (ps : List ℕ). Follows room (λ limit. pass (system_in bs) limit room ps) σ r τ q)
    (ap (λ (m : ℕ). parts_among treed reached (grammar_of bs) (up_from 0 m)) e ∙ parts) f

pub loop-number-init : goal.loop-number-init
loop-number-init c =
    (search rules, pass_start (system_in c.args.self.now.table.now) c.args.self.now.room _ _ c.args.run c.requires.stored, lent_same _)

pub turn-requires : goal.turn-requires
turn-requires c =
    let l = c.loop-number in
    let n = counted c.args.self.now.table.now _ _ c.header_of.ensures c.wide-count.ensures in
    (omega (arith, n, c.loop-number-test.true), kept_roomy _ _ _ _ _ l.invariant.1.kept c.requires)

pub returns-in_err-now-clause-follows : goal.returns-in_err-now-clause-follows
returns-in_err-now-clause-follows c =
    let a = c.args in
    let plan = a.self.now in
    let l = c.loop-number in
    let w = err_from_is_err_and c.from_residual.result c.from_residual.ensures.1 in
    rw (w.1, w.2)
    (over_all plan.table.now plan.part.treed.words plan.part.reached.words plan.parts
    (counted plan.table.now _ _ c.header_of.ensures c.wide-count.ensures)
    (pass_stopped (system_in plan.table.now) plan.room (part_by plan.part.treed.words plan.part.reached.words plan.table.now) _ a.run _
    l.now l.number l.invariant.1 _ c.loop-number-test.true _ _ (rw (sym c.in_err-now.was) c.turn.ensures.follows)))

pub loop-number-preserved : goal.loop-number-preserved
loop-number-preserved c =
    let a = c.args in
    let plan = a.self.now in
    let l = c.loop-number in (
      omega arith,
      pass_more (system_in plan.table.now) plan.room (part_by plan.part.treed.words plan.part.reached.words plan.table.now) _ a.run _
          l.now l.number l.invariant.1 _ _ (rw (sym c.in_ok-now.was) c.turn.ensures.follows),
      lent_then l.invariant.2 c.turn.ensures.lent,
    )

pub returns-clause-follows : goal.returns-clause-follows
returns-clause-follows c =
    let plan = c.args.self.now in
    let n = counted plan.table.now _ _ c.header_of.ensures c.wide-count.ensures in
    let e : c.loop-number.number ≡ P plan.table.now = omega (arith, n) in
    over_all plan.table.now plan.part.treed.words plan.part.reached.words plan.parts e c.loop-number.invariant.1
