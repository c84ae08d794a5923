-- The promise of the public function has one reading. Assumes nothing.
use mathlib.Core.Path.{sym, ◌∙◌}
use Rattle.numbers.proofs.Reading.{OneResult}
use Rattle.circles.proofs.circle_of.Kinds as circle_of_kinds
use Rattle.circles.proofs.circle_of.Reads as circle_of_reads

pub one_reading_circle_of : OneResult 2 circle_of_kinds.ps circle_of_kinds.r circle_of_reads.Post
one_reading_circle_of κs a x y s t p q = p ∙ sym q
