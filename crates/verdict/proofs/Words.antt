-- The words of the demands on graphs, and the general form in which the theorems on trees speak. Assumes nothing.
use mathlib.Core.List.{List}
use Prim.Native.Nat.{ℕ, ◌*◌, ◌^◌, ◌<◌}
use native.Mathlib.Omega.{arith}
use Rattle.grammar.specs.Table.{width_of, grammar_of}
use Rattle.trees.specs.Tree.{Tree}
use Rattle.trees.specs.Compound.{IsGraph, NumberHolds}
use Rattle.trees.specs.Record.{OfTree}
use Rattle.parts.specs.Exactly.{Found, Exactly}
use Rattle.verdict.specs.Demands.{GraphOf, TreePair}

module _ (bs : List ℕ) where
  pub graph_of : (t : Tree) (graph : ℕ) → graph < 2 ^ (width_of bs * width_of bs) → IsGraph (grammar_of bs) (NumberHolds (width_of bs)) graph t → GraphOf bs t graph
  graph_of t graph low is = record {
    number = omega (arith, low);
    bits = λ a b k l. (λ h. (is a b).0 (record { from = k; to = l; worth = h }), λ p. ((is a b).1 p).worth);
    no_other = λ a b p. (((is a b).1 p).from, ((is a b).1 p).to);
  }

  pub is_graph : (t : Tree) (graph : ℕ) → GraphOf bs t graph → IsGraph (grammar_of bs) (NumberHolds (width_of bs)) graph t
  is_graph t graph h a b = (
    λ q. (h.bits a b q.from q.to).0 q.worth,
    λ p. let l = h.no_other a b p in record { from = l.0; to = l.1; worth = (h.bits a b l.0 l.1).1 p },
  )

  -- a pair below the start symbol is one of a tree of productions that take part, as the rule finds them
  module _ (e : Exactly (grammar_of bs)) where
    pub of_tree : (q : ℕ × ℕ) → TreePair bs q → (q.1 < 2 ^ (width_of bs * width_of bs)) × OfTree (grammar_of bs) (NumberHolds (width_of bs)) (Found (grammar_of bs)) q
    of_tree q h = (
      h.graph.number,
      (h.tree, record { complete = (e.subtrees h.tree).1 h.from_start; symbol = h.symbol; is_graph = is_graph h.tree q.1 h.graph }),
    )

    pub tree_pair : (q : ℕ × ℕ) → (q.1 < 2 ^ (width_of bs * width_of bs)) × OfTree (grammar_of bs) (NumberHolds (width_of bs)) (Found (grammar_of bs)) q → TreePair bs q
    tree_pair q (low, (t, h)) =
        record { tree = t; from_start = (e.subtrees t).0 h.complete; symbol = h.symbol; graph = graph_of t q.1 low h.is_graph }
