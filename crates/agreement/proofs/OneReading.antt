-- The promise of the public function has one reading. Assumes nothing.
use Rattle.numbers.proofs.Reading.{OneResult}
use Rattle.agreement.proofs.Exactly.{one_truth}
use Rattle.agreement.proofs.agrees.Kinds as agrees_kinds
use Rattle.agreement.proofs.agrees.Reads as agrees_reads

pub one_reading_agrees : OneResult 2 agrees_kinds.ps agrees_kinds.r agrees_reads.Post
one_reading_agrees κs a x y s t p q = one_truth x y p q
