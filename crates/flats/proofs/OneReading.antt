-- The promise of each public function has one reading: what the lent array holds afterwards. Assumes nothing.
use mathlib.Core.Path.{sym, ◌∙◌}
use Rattle.numbers.proofs.Reading.{OneOutcome}
use Rattle.flats.proofs.flat_check.Kinds as check_kinds
use Rattle.flats.proofs.flat_check.Reads as check_reads
use Rattle.flats.proofs.flat_trail.Kinds as trail_kinds
use Rattle.flats.proofs.flat_trail.Reads as trail_reads
use Rattle.flats.proofs.flat_report.Kinds as report_kinds
use Rattle.flats.proofs.flat_report.Reads as report_reads

pub one_reading_flat_check : OneOutcome 1 check_kinds.ps check_kinds.r check_reads.Post (λ κs r s. s.1.0.now)
one_reading_flat_check κs a x y s t p q = p ∙ sym q

-- the parameters at exit: trail, out
pub one_reading_flat_trail : OneOutcome 2 trail_kinds.ps trail_kinds.r trail_reads.Post (λ κs r s. s.1.0.now)
one_reading_flat_trail κs a x y s t p q = p ∙ sym q

pub one_reading_flat_report : OneOutcome 1 report_kinds.ps report_kinds.r report_reads.Post (λ κs r s. s.1.0.now)
one_reading_flat_report κs a x y s t p q = p ∙ sym q
