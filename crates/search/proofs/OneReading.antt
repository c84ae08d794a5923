-- The promise of each public function has one reading. Assumes nothing.
use mathlib.Core.Path.{sym, ◌∙◌}
use Rattle.numbers.proofs.Reading.{OneResult}
use Rattle.search.proofs.no_trail.Kinds as no_trail_kinds
use Rattle.search.proofs.no_trail.Reads as no_trail_reads
use Rattle.search.proofs.path.Kinds as path_kinds
use Rattle.search.proofs.path.Reads as path_reads
use Rattle.search.proofs.circle.Kinds as circle_kinds
use Rattle.search.proofs.circle.Reads as circle_reads

pub one_reading_no_trail : OneResult 0 no_trail_kinds.ps no_trail_kinds.r no_trail_reads.Post
one_reading_no_trail κs a x y s t p q = p ∙ sym q

pub one_reading_path : OneResult 2 path_kinds.ps path_kinds.r path_reads.Post
one_reading_path κs a x y s t p q = p ∙ sym q

pub one_reading_circle : OneResult 2 circle_kinds.ps circle_kinds.r circle_reads.Post
one_reading_circle κs a x y s t p q = p ∙ sym q
