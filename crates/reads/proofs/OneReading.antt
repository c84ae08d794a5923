-- The promise of each public function has one reading. Assumes nothing.
use mathlib.Core.Path.{sym, ◌∙◌}
use Rattle.numbers.proofs.Reading.{OneResult}
use Rattle.reads.proofs.number.Kinds as number_kinds
use Rattle.reads.proofs.number.Reads as number_reads
use Rattle.reads.proofs.counts_ok.Kinds as counts_ok_kinds
use Rattle.reads.proofs.counts_ok.Reads as counts_ok_reads
use Rattle.reads.proofs.offsets_ok.Kinds as offsets_ok_kinds
use Rattle.reads.proofs.offsets_ok.Reads as offsets_ok_reads
use Rattle.reads.proofs.read_symbol.Kinds as read_symbol_kinds
use Rattle.reads.proofs.read_symbol.Reads as read_symbol_reads
use Rattle.reads.proofs.read_production.Kinds as read_production_kinds
use Rattle.reads.proofs.read_production.Reads as read_production_reads

pub one_reading_number : OneResult 0 number_kinds.ps number_kinds.r number_reads.Post
one_reading_number κs a x y s t p q = p ∙ sym q

pub one_reading_counts_ok : OneResult 1 counts_ok_kinds.ps counts_ok_kinds.r counts_ok_reads.Post
one_reading_counts_ok κs a x y s t p q = p ∙ sym q

pub one_reading_offsets_ok : OneResult 1 offsets_ok_kinds.ps offsets_ok_kinds.r offsets_ok_reads.Post
one_reading_offsets_ok κs a x y s t p q = p ∙ sym q

pub one_reading_read_symbol : OneResult 1 read_symbol_kinds.ps read_symbol_kinds.r read_symbol_reads.Post
one_reading_read_symbol κs a x y s t p q = p ∙ sym q

pub one_reading_read_production : OneResult 1 read_production_kinds.ps read_production_kinds.r read_production_reads.Post
one_reading_read_production κs a x y s t p q = p ∙ sym q
