-- The compound graph over the graphs of some subtrees is that over the subtrees; what it makes is the graph of the tree. Assumes nothing.
use mathlib.Core.List.{List, [], ◌∷◌}
use mathlib.Core.Logic.Iff
use mathlib.Core.Logic.{◌⊎◌, ⊎_map, ◌↔◌}
use Prim.Native.Nat.{ℕ, zero, suc}
use Rattle.numbers.specs.Paths.{Plus, Circle}
use Rattle.grammar.specs.Grammar.{Grammar}
use Rattle.trees.specs.Tree.{node, Kids, nil, cons, Instance, here, TreeEdge, KidEdge}
use Rattle.trees.specs.Compound.{Compound, OverKids, IthHolds, OverGraphs, Makes, IsGraph, AreGraphs}
use Rattle.numbers.proofs.Ways.{carried, first_edge}
use Rattle.trees.proofs.Compose.{root_graph_lem, circle_below}

-- a compound graph grows with the graphs of its subtrees
module _ {O : Instance → Instance → Type 0} {R S : ℕ → ℕ → ℕ → Type 0} (f : (i a b : ℕ) → R i a b → S i a b) where
  grow_edge : (x y : Instance) → Compound O R x y → Compound O S x y
  grow_edge x y (Compound.own o) = Compound.own o
  grow_edge x y (Compound.pair {i = i} {a = a} {b = b} r) = Compound.pair (f i a b r)

  pub grow : {x y : Instance} → Plus (Compound O R) x y → Plus (Compound O S) x y
  grow p = carried grow_edge p

module _ (g : Grammar) {Graph : Type 0} (Holds : Graph → ℕ → ℕ → Type 0) where
  same_pairs :
      (graphs : List Graph) (ks : Kids) → AreGraphs g Holds graphs ks
      → (i a b : ℕ) → IthHolds Holds graphs i a b ↔ Plus (KidEdge g ks i) (here a) (here b)
  same_pairs [] nil h i a b = (λ e. absurd e, λ p. (first_edge p).1)
  same_pairs [] (cons t ks) h i a b = absurd h
  same_pairs (graph ∷ graphs) nil h i a b = absurd h
  same_pairs (graph ∷ graphs) (cons t ks) h zero a b = h.0 a b
  same_pairs (graph ∷ graphs) (cons t ks) h (suc i) a b = same_pairs graphs ks h.1 i a b

  module _ (p : ℕ) (graphs : List Graph) (ks : Kids) (are : AreGraphs g Holds graphs ks) where
    pub same_paths : {x y : Instance} → Plus (OverGraphs g Holds p graphs) x y ↔ Plus (OverKids g p ks) x y
    same_paths = (grow (λ i a b. (same_pairs graphs ks are i a b).0), grow (λ i a b. (same_pairs graphs ks are i a b).1))

    -- what the production makes of the graphs of the subtrees is the graph of the tree
    pub makes_graph : (graph : Graph) → Makes g Holds p graphs graph → IsGraph g Holds graph (node p ks)
    makes_graph graph m a b = Iff.trans (m a b) (Iff.trans same_paths (Iff.symm (root_graph_lem g p ks a b)))

    -- the tree has a circle exactly if the compound graph over the graphs has one or a subtree has one
    pub graphs_circle : Circle (TreeEdge g (node p ks)) ↔ (Circle (OverGraphs g Holds p graphs) ⊎ ((i : ℕ) × Circle (KidEdge g ks i)))
    graphs_circle = (
      λ c. ⊎_map (λ r. (r.0, same_paths.1 r.1)) (λ k. k) ((circle_below g p ks).0 c),
      λ c. (circle_below g p ks).1 (⊎_map (λ r. (r.0, same_paths.0 r.1)) (λ k. k) c),
    )
