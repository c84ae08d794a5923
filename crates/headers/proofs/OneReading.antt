-- The promise of each public function has one reading. Assumes nothing.
use mathlib.Core.Path.{sym, ◌∙◌}
use Rattle.numbers.proofs.Reading.{OneResult}
use Rattle.headers.proofs.header_of.Kinds as header_of_kinds
use Rattle.headers.proofs.header_of.Reads as header_of_reads
use Rattle.headers.proofs.offsets_of.Kinds as offsets_of_kinds
use Rattle.headers.proofs.offsets_of.Reads as offsets_of_reads

pub one_reading_header_of : OneResult 1 header_of_kinds.ps header_of_kinds.r header_of_reads.Post
one_reading_header_of κs a x y s t p q = p ∙ sym q

pub one_reading_offsets_of : OneResult 1 offsets_of_kinds.ps offsets_of_kinds.r offsets_of_reads.Post
one_reading_offsets_of κs a x y s t p q = p ∙ sym q
