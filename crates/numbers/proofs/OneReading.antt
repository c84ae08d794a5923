-- The promise of each public function has one reading. Assumes nothing.
use mathlib.Core.Path.{sym, ◌∙◌}
use Rattle.numbers.proofs.Reading.{OneResult}
use Rattle.numbers.proofs.byte_at.Kinds as byte_at_kinds
use Rattle.numbers.proofs.byte_at.Reads as byte_at_reads
use Rattle.numbers.proofs.two_at.Kinds as two_at_kinds
use Rattle.numbers.proofs.two_at.Reads as two_at_reads
use Rattle.numbers.proofs.four_at.Kinds as four_at_kinds
use Rattle.numbers.proofs.four_at.Reads as four_at_reads
use Rattle.numbers.proofs.wide.Kinds as wide_kinds
use Rattle.numbers.proofs.wide.Reads as wide_reads
use Rattle.numbers.proofs.smaller.Kinds as smaller_kinds
use Rattle.numbers.proofs.smaller.Reads as smaller_reads

pub one_reading_byte_at : OneResult 1 byte_at_kinds.ps byte_at_kinds.r byte_at_reads.Post
one_reading_byte_at κs a x y s t p q = p ∙ sym q

pub one_reading_two_at : OneResult 1 two_at_kinds.ps two_at_kinds.r two_at_reads.Post
one_reading_two_at κs a x y s t p q = p ∙ sym q

pub one_reading_four_at : OneResult 1 four_at_kinds.ps four_at_kinds.r four_at_reads.Post
one_reading_four_at κs a x y s t p q = p ∙ sym q

pub one_reading_wide : OneResult 0 wide_kinds.ps wide_kinds.r wide_reads.Post
one_reading_wide κs a x y s t p q = p ∙ sym q

pub one_reading_smaller : OneResult 0 smaller_kinds.ps smaller_kinds.r smaller_reads.Post
one_reading_smaller κs a x y s t p q = p ∙ sym q
