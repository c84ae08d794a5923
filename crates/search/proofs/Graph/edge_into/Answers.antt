-- `search::Graph::edge_into` meets its contract. Assumes nothing.
use mathlib.Core.Path.{ap, ◌∙◌}
use Prim.Native.Nat.{ℕ, ◌/◌, ◌%◌, ◌^◌}
use native.Mathlib.Omega.{arith}
use lib.Bits.{and_mask}
use lib.Dec.{eqb}
use lib.ListN.{get_or}
use Rattle.grammar.proofs.Occurrences.{allowed_left, allowed_right}
use Rattle.graph.specs.Marks.{edge_into}
use Rattle.search.proofs.Graph.edge_into.Goals as goal

pub returns-then-target-lt-ATTRIBUTES : goal.returns-then-target-lt-ATTRIBUTES
unfolding edge_into
returns-then-target-lt-ATTRIBUTES c =
    let a = c.args in
    ap (λ (i : ℕ). eqb i 0) (and_mask (get_or a.self.now.masks.now (a.target / 8) 0 / 2 ^ (a.target % 8)) 1)
    ∙ allowed_left (a.target / 8) _ (omega arith)

pub returns-else-target-lt-ATTRIBUTES : goal.returns-else-target-lt-ATTRIBUTES
unfolding edge_into
returns-else-target-lt-ATTRIBUTES c =
    let a = c.args in
    ap (λ (i : ℕ). eqb i 1) (and_mask (get_or a.self.now.masks.now (a.target / 8) 0 / 2 ^ (a.target % 8)) 1)
    ∙ allowed_right (a.target / 8) _ (λ e. omega (arith, e))
