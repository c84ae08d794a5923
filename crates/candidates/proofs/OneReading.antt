-- The promise of each public function has one reading. Assumes nothing.
use mathlib.Core.Path.{sym, ◌∙◌}
use Rattle.numbers.proofs.Reading.{OneResult}
use Rattle.candidates.proofs.next_candidate.Kinds as next_candidate_kinds
use Rattle.candidates.proofs.next_candidate.Reads as next_candidate_reads

pub one_reading_next_candidate : OneResult 1 next_candidate_kinds.ps next_candidate_kinds.r next_candidate_reads.Post
one_reading_next_candidate κs a x y s t p q = p ∙ sym q
