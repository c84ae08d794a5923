-- The promise of the public function has one reading. Assumes nothing.
use mathlib.Core.Path.{sym, ◌∙◌}
use Rattle.numbers.proofs.Reading.{OneResult}
use Rattle.checks.proofs.check.Kinds as check_kinds
use Rattle.checks.proofs.check.Reads as check_reads

pub one_reading_check : OneResult 1 check_kinds.ps check_kinds.r check_reads.Post
one_reading_check κs a x y s t p q = p ∙ sym q
