-- `compounds::add_edges` meets its contract. The loop's invariant: the edges that are left make of the rows now what all make of them at
-- the start. Assumes nothing.
use mathlib.Core.Path.{◌≡◌}
use Prim.Native.Nat.{◌*◌, ◌/◌}
use lib.ListN.{length}
use Rattle.grammar.specs.Table.{edge_in, edges_in}
use Rattle.graph.specs.Rows.{own}
use Rattle.graph.proofs.Turns.{own_from}
use Rattle.compounds.proofs.add_edges.Given as goal

abbrev pub invariant-loop-edge : goal.invariant-loop-edge
invariant-loop-edge l =
    own_from 8 (λ i. edge_in l.run (6 * i)) (length l.run / 6) l.edge-index l.rows ≡ own 8 (edges_in l.run) l.initial.rows
