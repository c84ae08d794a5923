-- `closures::closure` meets its contract: the first rows of the closed table are the closure of the compound graph's rows. Assumes nothing.
use mathlib.Core.Path.{◌≡◌, ap, ◌∙◌}
use mathlib.Core.List.{List}
use Prim.Native.Nat.{ℕ, suc, ◌+◌, ◌*◌, min}
use native.Mathlib.Omega.{arith}
use lib.ListN.{length, take}
use Rattle.graph.specs.Rows.{placed_from, has_circle, root_graph}
use Rattle.graph.specs.Parts.{closed_first}
use Rattle.graph.proofs.Parts.{take_closed, root_closed}
use Rattle.compounds.specs.Combination.{own_in, picked_graphs, closed_in}
use Rattle.compounds.proofs.Placing.{length_picked}
use Rattle.closures.proofs.closure.Goals as goal

module _ (run graphs : List ℕ) (count : ℕ) (picked : List ℕ) (n : ℕ) (table closed : List ℕ) (all : n ≡ min count (length picked) + 1)
    (made : table ≡ placed_from 8 1 (picked_graphs graphs count picked) (own_in run)) (done : closed ≡ closed_first (8 * n) table) where
  nodes : 8 * n ≡ 8 * suc (length (picked_graphs graphs count picked))
  nodes = omega (arith, length_picked graphs count picked)

  closed_circle_lem : has_circle (take (8 * n) closed) ≡ has_circle (closed_in run graphs count picked)
  closed_circle_lem = ap (λ (l : List ℕ). has_circle (take (8 * n) l)) done ∙ ap has_circle (take_closed (8 * n) table) ∙ rw (nodes, made)

  closed_root : root_graph 8 closed ≡ root_graph 8 (closed_in run graphs count picked)
  closed_root = ap (root_graph 8) done ∙ root_closed 8 (8 * n) table (omega arith) ∙ rw (nodes, made)

pub returns : goal.returns
returns c =
    let closed = c.close in
    let table = c.compound in
    let n = c.occurrences_of-occurrences in
    let a = c.args in (
      c.has_circle.ensures
          ∙ closed_circle_lem a.run.now a.graphs.now a.count a.picked.now n.result table.new.rows closed.new.rows
          n.ensures table.ensures closed.ensures,
      c.root_graph.ensures
          ∙ closed_root a.run.now a.graphs.now a.count a.picked.now n.result table.new.rows closed.new.rows
          n.ensures table.ensures closed.ensures,
    )
