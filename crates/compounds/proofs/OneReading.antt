-- The promise of each public function has one reading. Assumes nothing.
use mathlib.Core.Path.{sym, ◌∙◌}
use Rattle.numbers.proofs.Reading.{OneOutcome, OneResult}
use Rattle.compounds.proofs.own_rows.Kinds as own_rows_kinds
use Rattle.compounds.proofs.own_rows.Reads as own_rows_reads
use Rattle.compounds.proofs.place.Kinds as place_kinds
use Rattle.compounds.proofs.place.Reads as place_reads
use Rattle.compounds.proofs.compound.Kinds as compound_kinds
use Rattle.compounds.proofs.compound.Reads as compound_reads

pub one_reading_own_rows : OneResult 1 own_rows_kinds.ps own_rows_kinds.r own_rows_reads.Post
one_reading_own_rows κs a x y s t p q = p ∙ sym q

-- the rows are lent: what comes back is what they hold afterwards
pub one_reading_place : OneOutcome 1 place_kinds.ps place_kinds.r place_reads.Post (λ κs r s. s.0.now)
one_reading_place κs a x y s t p q = p ∙ sym q

pub one_reading_compound : OneOutcome 4 compound_kinds.ps compound_kinds.r compound_reads.Post (λ κs r s. s.0.now)
one_reading_compound κs a x y s t p q = p ∙ sym q
