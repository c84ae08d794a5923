-- The promise of the public function has one reading. Assumes nothing.
use mathlib.Core.Path.{sym, ◌∙◌}
use Rattle.numbers.proofs.Reading.{OneResult}
use Rattle.edges.proofs.read_edge.Kinds as read_edge_kinds
use Rattle.edges.proofs.read_edge.Reads as read_edge_reads

pub one_reading_read_edge : OneResult 1 read_edge_kinds.ps read_edge_kinds.r read_edge_reads.Post
one_reading_read_edge κs a x y s t p q = p ∙ sym q
