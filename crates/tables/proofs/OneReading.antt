-- The promise of each public function has one reading. Assumes nothing.
use mathlib.Core.Path.{sym, ◌∙◌}
use Rattle.numbers.proofs.Reading.{OneOutcome, OneResult}
use Rattle.tables.proofs.symbol_of.Kinds as symbol_of_kinds
use Rattle.tables.proofs.symbol_of.Reads as symbol_of_reads
use Rattle.tables.proofs.production_of.Kinds as production_of_kinds
use Rattle.tables.proofs.production_of.Reads as production_of_reads
use Rattle.tables.proofs.edge_at.Kinds as edge_at_kinds
use Rattle.tables.proofs.edge_at.Reads as edge_at_reads
use Rattle.tables.proofs.run_of.Kinds as run_of_kinds
use Rattle.tables.proofs.run_of.Reads as run_of_reads

pub one_reading_symbol_of : OneResult 1 symbol_of_kinds.ps symbol_of_kinds.r symbol_of_reads.Post
one_reading_symbol_of κs a x y s t p q = p ∙ sym q

pub one_reading_production_of : OneResult 1 production_of_kinds.ps production_of_kinds.r production_of_reads.Post
one_reading_production_of κs a x y s t p q = p ∙ sym q

pub one_reading_edge_at : OneResult 1 edge_at_kinds.ps edge_at_kinds.r edge_at_reads.Post
one_reading_edge_at κs a x y s t p q = p ∙ sym q

-- the bytes of the part that is handed out
pub one_reading_run_of : OneOutcome 1 run_of_kinds.ps run_of_kinds.r run_of_reads.Post (λ κs r s. r.now)
one_reading_run_of κs a x y s t p q = p ∙ sym q
