-- `search::Graph::written` meets its contract. The loop's invariant: i nodes after x are written, with the marks of the links to them. Assumes nothing.
use mathlib.Core.Path.{ap}
use native.Mathlib.Omega.{arith}
use lib.ListN.{get_or}
use Rattle.std.proofs.lemmas.Nat.{and_le_r}
use Rattle.graph.specs.declared.Trail.{Trail}
use Rattle.graph.proofs.Searching.{writing_begun, next_found, next_low, writing_more, writing_done}
use Rattle.search.proofs.Graph.written.Goals as goal

pub loop-i-init : goal.loop-i-init
loop-i-init c =
    let a = c.args in
    let none = c.no_trail-trail.ensures in (
      omega arith,
      writing_begun 8 a.self.now.masks.now 64 a.self.now.rows.now a.x a.y a.k (omega arith) c.requires.3
          (ap (λ (t : Trail). t.nodes) none)
          (ap (λ (t : Trail). t.marks) none),
    )

pub mark-requires : goal.mark-requires
mark-requires c =
    let t = c.loop-i.invariant.1 in
    let next = next_found t (omega arith) c.reaching-ahead.ensures (omega (arith, and_le_r (get_or c.args.self.now.rows.now c.loop-i.z 0) c.reaching-ahead.result)) in
    omega (arith, next_low t (omega arith) next)

pub loop-i-preserved : goal.loop-i-preserved
loop-i-preserved c =
    let t = c.loop-i.invariant.1 in
    let next = next_found t (omega arith) c.reaching-ahead.ensures (omega (arith, and_le_r (get_or c.args.self.now.rows.now c.loop-i.z 0) c.reaching-ahead.result)) in
    (next_low t (omega arith) next, writing_more t (omega arith) next (omega arith) c.mark.ensures)

pub returns : goal.returns
returns c = writing_done c.loop-i.invariant.1 (omega arith) (omega arith) c.mark-2.ensures
