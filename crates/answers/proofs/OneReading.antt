-- The promise of the public function has one reading: the buffer and the slices afterwards, and the length that is returned. Assumes
-- nothing.
use Rattle.numbers.proofs.Reading.{OneOutcome}
use Rattle.steps.specs.Lent.{held}
use Rattle.steps.proofs.Lending.{Loans, loans, same_loans}
use Rattle.passes.specs.Slices.{Slices}
use Rattle.passes.proofs.OneReading.{told_once}
use Rattle.print.proofs.OneReading.{Back, printed_once}
use Rattle.answers.proofs.test_text.Kinds as test_text_kinds
use Rattle.answers.proofs.test_text.Reads as test_text_reads

-- the parameters at exit: buffer, table, limit, store
pub one_reading_test_text :
    OneOutcome 4 test_text_kinds.ps test_text_kinds.r test_text_reads.Post {W = λ κs. Back × Slices × Loans}
    (λ κs r s. (
      (s.0.now, r),
      held s.1.1.1.0.now,
      loans s.1.1.1.0.now,
    ))
one_reading_test_text κs a x y s t p q i = (
  printed_once p.0.text q.0.text i,
  (told_once p.0.stored q.0.stored i).1,
  same_loans p.1 q.1 i,
)
