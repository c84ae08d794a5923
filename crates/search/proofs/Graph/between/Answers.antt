-- `search::Graph::between` meets its contract. The loop's invariant: the set has the nodes from which k links lead to y, and what is left to search gives what the whole gives. Assumes nothing.
use Prim.Native.Nat.{◌/◌, ◌^◌}
use native.Mathlib.Omega.{arith}
use lib.Bits.{and_mask}
use Rattle.numbers.proofs.Bits.{power_fits}
use Rattle.graph.specs.Search.{level}
use Rattle.graph.proofs.Searching.{level_more, between_begun, between_hit, between_skip, between_over}
use Rattle.search.proofs.Graph.between.Goals as goal

pub loop-k-init : goal.loop-k-init
unfolding level
loop-k-init c =
    let a = c.args in
    (power_fits 64 a.y (omega arith), between_begun a.self.now.rows.now a.x a.y)

pub returns-then-set-x-eq1 : goal.returns-then-set-x-eq1
returns-then-set-x-eq1 c =
    let a = c.args in
    let rows = a.self.now.rows.now in
    let k = c.loop-k.k in
    let p = level_more rows a.y k c.loop-k.invariant.0 c.sources-set.ensures in
    (between_hit rows a.x a.y k (omega arith) p c.loop-k.invariant.1 (omega (arith, and_mask (c.sources-set.result / 2 ^ a.x) 1)), omega arith)

pub loop-k-preserved : goal.loop-k-preserved
loop-k-preserved c =
    let a = c.args in
    let rows = a.self.now.rows.now in
    let k = c.loop-k.k in
    let p = level_more rows a.y k c.loop-k.invariant.0 c.sources-set.ensures in
    (p, between_skip rows a.x a.y k (omega arith) p c.loop-k.invariant.1 (omega (arith, and_mask (c.sources-set.result / 2 ^ a.x) 1)))

pub returns : goal.returns
returns c =
    let a = c.args in
    omega (arith, between_over a.self.now.rows.now a.x a.y c.loop-k.k (omega arith) c.loop-k.invariant.1)
