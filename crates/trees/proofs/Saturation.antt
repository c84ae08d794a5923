-- From a store that is closed under every production that takes part, and holds no circle: each tree's graph is stored, and no tree has
-- a circle. Assumes nothing.
use mathlib.Core.List.{List, [], ◌∷◌}
use mathlib.Core.Logic.{⊎_elim}
use mathlib.Core.Path.{◌≡◌, ◌∙◌}
use Prim.Native.Nat.{ℕ, zero, suc}
use Rattle.numbers.specs.Paths.{Circle}
use Rattle.grammar.specs.Grammar.{Grammar, production, rights}
use Rattle.trees.specs.Tree.{Tree, node, Kids, nil, cons, root_symbol, Complete, OneEach, TreeEdge, KidEdge, Circular}
use Rattle.trees.specs.Compound.{IsGraph, AreGraphs}
use Rattle.trees.specs.Record.{Entry, KidsBelow, graphs_at, Stored, Saturated}
use Rattle.numbers.proofs.Ways.{first_edge}
use Rattle.trees.proofs.Graphs.{makes_graph, graphs_circle}

module _ (g : Grammar) {Graph : Type 0} (Holds : Graph → ℕ → ℕ → Type 0) (Part : ℕ → Type 0) (entry : ℕ → Entry Graph) (count : ℕ) where
  record Settled (t : Tree) : Type 0 where
    stored : Stored entry count (root_symbol g t) (λ graph. IsGraph g Holds graph t)
    no_circle : ¬ Circle (TreeEdge g t)

  record SettledKids (ks : Kids) (ss : List ℕ) : Type 0 where
    numbers : List ℕ
    fits : KidsBelow entry count numbers ss
    graphs_are : AreGraphs g Holds (graphs_at entry numbers) ks
    no_circle : (i : ℕ) → ¬ Circle (KidEdge g ks i)

  module _ (saturated : Saturated g Holds Part entry count) where
    settled_node : (p : ℕ) (ks : Kids) → Part p → SettledKids ks (rights (production g p)) → Settled (node p ks)
    settled_node p ks part h =
        let k = saturated.stored p part h.numbers h.fits in
        record {
          stored =
              record {
                number = k.number;
                among = k.among;
                symbol = k.symbol;
                graph = makes_graph g Holds p (graphs_at entry h.numbers) ks h.graphs_are (entry k.number).graph k.graph;
              };
          no_circle =
              λ c.
              ⊎_elim (saturated.no_circle p part h.numbers h.fits) (λ r. h.no_circle r.0 r.1)
              ((graphs_circle g Holds p (graphs_at entry h.numbers) ks h.graphs_are).0 c);
        }

    no_kids : (i : ℕ) → ¬ Circle (KidEdge g nil i)
    no_kids i (x, q) = (first_edge q).1

    more_kids :
        (t : Tree) (ks : Kids) → (¬ Circle (TreeEdge g t)) → ((i : ℕ) → ¬ Circle (KidEdge g ks i))
        → (i : ℕ) → ¬ Circle (KidEdge g (cons t ks) i)
    more_kids t ks h k zero = h
    more_kids t ks h k (suc i) = k i

    settled_cons :
        (t : Tree) (ks : Kids) (s : ℕ) (ss : List ℕ)
        → root_symbol g t ≡ s → Settled t → SettledKids ks ss → SettledKids (cons t ks) (s ∷ ss)
    settled_cons t ks s ss e h k =
        record {
          numbers = h.stored.number ∷ k.numbers;
          fits = (h.stored.among, h.stored.symbol ∙ e, k.fits);
          graphs_are = (h.stored.graph, k.graphs_are);
          no_circle = more_kids t ks h.no_circle k.no_circle;
        }

    mutual
      settled : (t : Tree) → Complete g Part t → Settled t
      settled (node p ks) w = settled_node p ks w.0 (settled_kids ks (rights (production g p)) w.1)

      settled_kids : (ks : Kids) (ss : List ℕ) → OneEach g Part ks ss → SettledKids ks ss
      settled_kids nil [] w = record { numbers = []; fits = tt; graphs_are = tt; no_circle = no_kids }
      settled_kids nil (s ∷ ss) w = absurd w
      settled_kids (cons t ks) [] w = absurd w
      settled_kids (cons t ks) (s ∷ ss) w = settled_cons t ks s ss w.0 (settled t w.1) (settled_kids ks ss w.2)

    -- the graph of every tree is stored
    pub all_stored : (t : Tree) → Complete g Part t → Stored entry count (root_symbol g t) (λ graph. IsGraph g Holds graph t)
    all_stored t w = (settled t w).stored

    -- no tree has a circle
    pub none_circular : ¬ Circular g Part
    none_circular (t, w, c) = (settled t w).no_circle c
