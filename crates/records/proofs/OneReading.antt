-- The promise of each public function has one reading; of the test it is said plainly and in the logic, as in `rows`. Assumes nothing.
use mathlib.Core.Path.{◌≡◌, sym, ◌∙◌}
use seplogic.Ra.Ura.{Ura}
use base.Logic.{SProp, ent, sep}
use prog.Memory.{Memory}
use prog.Routine.{Routine}
use types.Logic.{Logic}
use contract.Lifetimes.{Lfts}
use contract.Monad.{Fun, fact}
use denote.Triple.Clauses.{AtExit}
use denote.Triple.Entry.{Args, Res}
use mathlib.Core.List.{List}
use Rattle.numbers.proofs.Reading.{OneOutcome}
use Rattle.rules.specs.declared.Entry.{Entry}
use Rattle.rules.specs.declared.Report.{Report}
use Rattle.rows.proofs.OneReading.{both}
use Rattle.records.proofs.test.Kinds as test_kinds
use Rattle.records.proofs.test.Reads as test_reads
use Rattle.records.specs.contracts.test as test

abbrev Back : Type 0
Back = Report × List Entry

-- the report, and the row afterwards
pub one_reading_test_plain : OneOutcome 2 test_kinds.ps test_kinds.r test_reads.Post {W = λ κs. Back} (λ κs r s. (r, s.1.1.0.now))
one_reading_test_plain κs a x y s t p q i = ((p.report ∙ sym q.report) i, (p.entries ∙ sym q.entries) i)

module _ {M : Type 1} {𝓤 : Ura M} (𝓛 : Logic 𝓤) (mem : Memory → SProp 𝓤) (run : Routine → Fun 𝓤) where
  pub one_reading_test : (κs : Lfts 2) (a : Args test.signature κs) (x y : Res test.signature κs) (s t : AtExit test.ended κs)
      → ent 𝓤 (sep 𝓤 ((test.clauses 𝓛 mem run κs a).ensures tt x s) ((test.clauses 𝓛 mem run κs a).ensures tt y t))
      (fact 𝓤 ((x ≡ y) × (s.1.1.0.now ≡ t.1.1.0.now)))
  one_reading_test κs a x y s t =
      both 𝓤 ((x ≡ y) × (s.1.1.0.now ≡ t.1.1.0.now)) (λ p q. (p.report ∙ sym q.report, p.entries ∙ sym q.entries))
