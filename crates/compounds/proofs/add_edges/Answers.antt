-- `compounds::add_edges` meets its contract. The loop's invariant: the edges that are left make of the rows now what all make of them at
-- the start. Assumes nothing.
use mathlib.Core.Path.{◌≡◌, sym, ap, ap₂, ◌∙◌}
use mathlib.Core.List.{List, []}
use Prim.Native.Nat.{ℕ, ◌+◌, ◌*◌, ◌/◌}
use native.Mathlib.Nat.{sub-zero}
use native.Mathlib.Omega.{arith}
use lib.ListN.{length, get_or}
use Rattle.grammar.specs.Table.{node_in, edge_in, edges_in}
use Rattle.graph.specs.Rows.{node, link}
use Rattle.graph.proofs.Turns.{own_from, own_more, own_done}
use Rattle.compounds.proofs.Edges.{node_read}
use Rattle.compounds.proofs.add_edges.Goals as goal

pub loop-edge-init : goal.loop-edge-init
unfolding edges_in
loop-edge-init c = simp sub-zero

pub loop-edge-preserved : goal.loop-edge-preserved
unfolding edge_in
loop-edge-preserved c =
    let run = c.args.run.now in
    let n = length run / 6 in
    let e = c.loop-edge.edge-index in
    let rows = c.loop-edge.rows in
    let chunks = c.as_chunks.ensures.front in
    let source : c.node_at-source.result ≡ node 8 (node_in run (6 * e + 2)) = c.node_at-source.ensures ∙ ap (λ (es : List (List ℕ)). node 8 (node_in (get_or es e []) 2)) chunks ∙ ap (node 8) (node_read run n e 2 (omega arith) (omega arith)) in
    let target : c.node_at-target.result ≡ node 8 (node_in run (6 * e + 4)) = c.node_at-target.ensures ∙ ap (λ (es : List (List ℕ)). node 8 (node_in (get_or es e []) 4)) chunks ∙ ap (node 8) (node_read run n e 4 (omega arith) (omega arith)) in
    ap (own_from 8 (λ i. edge_in run (6 * i)) n (e + 1)) (c.add_edge.ensures ∙ ap₂ (λ (i j : ℕ). link i j rows) source target)
    ∙ own_more 8 _ _ e rows (omega arith)
    ∙ c.loop-edge.invariant

pub returns : goal.returns
returns c =
    sym (own_done 8 _ _ c.loop-edge.edge-index c.loop-edge.rows (omega arith)) ∙ c.loop-edge.invariant
