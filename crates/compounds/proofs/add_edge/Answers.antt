-- `compounds::add_edge` meets its contract. Assumes nothing.
use mathlib.Core.Path.{sym, ap, ◌∙◌}
use Prim.Native.Nat.{ℕ}
use native.Mathlib.Omega.{arith}
use Rattle.numbers.proofs.Bits.{power_fits}
use Rattle.graph.specs.Rows.{join_at}
use Rattle.graph.proofs.Turns.{link_there, link_no_target, link_no_source}
use Rattle.compounds.proofs.add_edge.Goals as goal
use Rattle.compounds.proofs.add_edge.Goals.{else-source-lt-NODES-via-then-source-lt-NODES+else-target-lt-NODES, else-source-lt-NODES-via-else-source-lt-NODES}

pub returns-then-target-lt-NODES : goal.returns-then-target-lt-NODES
returns-then-target-lt-NODES c =
    let args = c.args in
    ap (λ (x : ℕ). join_at args.source x args.rows.now) (power_fits 64 args.target (omega arith))
    ∙ sym (link_there args.source args.target args.rows.now (omega arith))

pub returns-else-source-lt-NODES : goal.returns-else-source-lt-NODES
returns-else-source-lt-NODES c =
    let args = c.args in
    elim c.else-source-lt-NODES.branch [
      | else-source-lt-NODES-via-then-source-lt-NODES+else-target-lt-NODES w ↦ sym (link_no_target args.source args.target args.rows.now (omega arith))
      | else-source-lt-NODES-via-else-source-lt-NODES w ↦ sym (link_no_source args.source args.target args.rows.now (omega arith))
    ]
