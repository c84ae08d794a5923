-- `compounds::place_all` meets its contract. The invariant: the pairs that are left make of the rows now what all make of them at the start.
-- Assumes nothing.
use mathlib.Core.Path.{ap, ◌∙◌}
use mathlib.Core.List.{List}
use Prim.Native.Nat.{ℕ}
use native.Mathlib.Omega.{arith}
use lib.ListN.{take}
use Rattle.numbers.proofs.Parts.{take_clipped}
use Rattle.graph.specs.Rows.{placed_from}
use Rattle.compounds.proofs.Placing.{graphs_at, one_placed, none_left}
use Rattle.compounds.proofs.place_all.Goals as goal

pub loop-k-init : goal.loop-k-init
loop-k-init c =
    let a = c.args in
    ap (λ (numbers : List ℕ). placed_from 8 1 (graphs_at a.graphs.now numbers) a.rows.now)
    (take_clipped a.count c.smaller.result a.picked.now (omega arith))

pub loop-k-preserved : goal.loop-k-preserved
loop-k-preserved c =
    let l = c.loop-k in
    one_placed c.args.graphs.now (take c.smaller.result c.args.picked.now) l.rows l.k (omega arith) c.graph_of-pairs.ensures c.place.ensures
    ∙ l.invariant

pub returns : goal.returns
returns c =
    none_left c.args.graphs.now (take c.smaller.result c.args.picked.now) c.loop-k.rows c.loop-k.k (omega arith) ∙ c.loop-k.invariant
