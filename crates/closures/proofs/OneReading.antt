-- The promise of each public function has one reading. Assumes nothing.
use mathlib.Core.Path.{sym, ◌∙◌}
use Rattle.numbers.proofs.Reading.{OneOutcome, OneResult}
use Rattle.closures.proofs.close.Kinds as close_kinds
use Rattle.closures.proofs.close.Reads as close_reads
use Rattle.closures.proofs.closure.Kinds as closure_kinds
use Rattle.closures.proofs.closure.Reads as closure_reads
use Rattle.closures.proofs.has_circle.Kinds as has_circle_kinds
use Rattle.closures.proofs.has_circle.Reads as has_circle_reads
use Rattle.closures.proofs.root_graph.Kinds as root_graph_kinds
use Rattle.closures.proofs.root_graph.Reads as root_graph_reads

-- the rows are lent: what comes back is what they hold afterwards
pub one_reading_close : OneOutcome 1 close_kinds.ps close_kinds.r close_reads.Post (λ κs r s. s.0.now)
one_reading_close κs a x y s t p q = p ∙ sym q

pub one_reading_has_circle : OneResult 1 has_circle_kinds.ps has_circle_kinds.r has_circle_reads.Post
one_reading_has_circle κs a x y s t p q = p ∙ sym q

pub one_reading_root_graph : OneResult 1 root_graph_kinds.ps root_graph_kinds.r root_graph_reads.Post
one_reading_root_graph κs a x y s t p q = p ∙ sym q

pub one_reading_closure : OneResult 3 closure_kinds.ps closure_kinds.r closure_reads.Post
one_reading_closure κs a x y s t p q i = record { circle = (p.0 ∙ sym q.0) i; graph = (p.1 ∙ sym q.1) i }
