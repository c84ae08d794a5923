-- The promise of the test has one reading: the report, and every lent slice afterwards, which the store is left with. Assumes nothing.
use mathlib.Core.Path.{◌≡◌, sym, ◌∙◌}
use Rattle.numbers.proofs.Reading.{OneOutcome}
use Rattle.rules.specs.declared.Report.{Report}
use Rattle.rules.specs.Passes.{Outcome}
use Rattle.passes.specs.Slices.{Slices, slices, Tells}
use Rattle.steps.specs.Lent.{held}
use Rattle.steps.proofs.Lending.{Loans, loans, same_loans}
use Rattle.passes.proofs.test.Kinds as test_kinds
use Rattle.passes.proofs.test.Reads as test_reads

abbrev pub Back : Type 0
Back = Report × Slices

pub told_once : {o : Outcome} {σ τ υ : Slices} {r s : Report} → Tells o σ r τ → Tells o σ s υ → ◌≡◌ {A = Back} (r, τ) (s, υ)
told_once p q i = (
  (p.report ∙ sym q.report) i,
  slices ((p.symbols ∙ sym q.symbols) i) ((p.graphs ∙ sym q.graphs) i) ((p.productions ∙ sym q.productions) i)
      ((p.kids ∙ sym q.kids) i),
)

-- the parameters at exit: table, limit, store
pub one_reading_test :
    OneOutcome 3 test_kinds.ps test_kinds.r test_reads.Post {W = λ κs. Back × Loans}
    (λ κs r s. ((r, held s.1.1.0.now), loans s.1.1.0.now))
one_reading_test κs a x y s t p q i = (told_once p.0 q.0 i, same_loans p.1 q.1 i)
