-- `compounds::place_all` meets its contract. The invariant: the pairs that are left make of the rows now what all make of them at the start.
-- Assumes nothing.
use mathlib.Core.Path.{◌≡◌}
use Prim.Native.Nat.{suc}
use lib.ListN.{drop}
use Rattle.graph.specs.Rows.{placed_from}
use Rattle.compounds.specs.Combination.{picked_graphs}
use Rattle.compounds.proofs.Placing.{graphs_at}
use Rattle.compounds.proofs.place_all.Given as goal

abbrev pub invariant-loop-k : goal.invariant-loop-k
invariant-loop-k l =
    placed_from 8 (suc l.k) (drop l.k (graphs_at l.graphs l.some)) l.rows ≡ placed_from 8 1 (picked_graphs l.graphs l.count l.picked) l.initial.rows
