-- The shown tree of each entry is complete, with the entry's symbol and graph; the shown tree of a circular root has a circle.
-- Assumes nothing.
use mathlib.Core.List.Memᴰ
use mathlib.Core.List.{List, [], ◌∷◌, Memᴰ}
use mathlib.Core.Logic.{inl}
use mathlib.Core.Path.{◌≡◌, refl, ◌∙◌, ap, ap₂, subst}
use Prim.Native.Nat.{ℕ, zero, suc, ◌<◌}
use native.Mathlib.Omega.{arith}
use lib.ListN.{length, length-map}
use Rattle.numbers.specs.Paths.{Circle}
use Rattle.grammar.specs.Grammar.{Grammar, production, rights}
use Rattle.trees.specs.Tree.{Tree, node, cons, Complete, OneEach, TreeEdge, WellFormed}
use Rattle.trees.specs.Compound.{OverGraphs, Makes, AreGraphs}
use Rattle.trees.specs.Record.{Entry, row, levels, shown_entry, shown, KidsBelow, graphs_at, Derived, Shows}
use Rattle.numbers.proofs.Members.{at_cons}
use Rattle.trees.proofs.Values.{length_rights}
use Rattle.trees.proofs.Graphs.{makes_graph, graphs_circle}

-- there is a graph for each right symbol
fits_length : {Graph : Type 0} (entry : ℕ → Entry Graph) (n : ℕ) (ks ss : List ℕ) → KidsBelow entry n ks ss → length ks ≡ length ss
fits_length entry n [] [] w = refl
fits_length entry n [] (s ∷ ss) w = absurd w
fits_length entry n (k ∷ ks) [] w = absurd w
fits_length entry n (k ∷ ks) (s ∷ ss) (l, e, w) = ap suc (fits_length entry n ks ss w)

-- the numbers are below n
pub fits_below : {Graph : Type 0} (entry : ℕ → Entry Graph) (n : ℕ) (ks ss : List ℕ) → KidsBelow entry n ks ss → (j : ℕ) → Memᴰ j ks → j < n
fits_below entry n [] [] w j m = absurd (Memᴰ.not-nil m)
fits_below entry n [] (s ∷ ss) w j m = absurd w
fits_below entry n (k ∷ ks) [] w j m = absurd w
fits_below entry n (k ∷ ks) (s ∷ ss) (l, e, w) j m = at_cons (λ i. i < n) l (fits_below entry n ks ss w j) m

pub graphs_count :
    (g : Grammar) → WellFormed g → {Graph : Type 0} (entry : ℕ → Entry Graph) (n p : ℕ) (ks : List ℕ)
    → KidsBelow entry n ks (rights (production g p)) → length (graphs_at entry ks) ≡ (production g p).n
graphs_count g formed entry n p ks w =
    length-map ks (λ k. (entry k).graph) ∙ fits_length entry n ks (rights (production g p)) w ∙ length_rights g formed p

module _ (g : Grammar) {Graph : Type 0} (Holds : Graph → ℕ → ℕ → Type 0) (Part : ℕ → Type 0) (entry : ℕ → Entry Graph) where
  -- t is a tree of the entry k
  abbrev ShowsEntry : ℕ → Tree → Type 0
  ShowsEntry k t = Shows g Holds Part (entry k).symbol (entry k).graph t

  row_shows :
      (tree : ℕ → Tree) (n : ℕ) → ((k : ℕ) → k < n → ShowsEntry k (tree k))
      → (ks ss : List ℕ) → KidsBelow entry n ks ss
      → OneEach g Part (row tree ks) ss × AreGraphs g Holds (graphs_at entry ks) (row tree ks)
  row_shows tree n h [] [] w = (tt, tt)
  row_shows tree n h [] (s ∷ ss) w = absurd w
  row_shows tree n h (k ∷ ks) [] w = absurd w
  row_shows tree n h (k ∷ ks) (s ∷ ss) (l, e, w) =
      let b = h k l in
      let r = row_shows tree n h ks ss w in
      ((cc b.symbol, b.complete, r.0), (b.is_graph, r.1))

  -- a production over trees of entries
  module _
      (tree : ℕ → Tree) (n : ℕ) (shows : (k : ℕ) → k < n → ShowsEntry k (tree k))
      (p : ℕ) (ks : List ℕ) (part : Part p) (fits : KidsBelow entry n ks (rights (production g p))) where
    row_graphs : AreGraphs g Holds (graphs_at entry ks) (row tree ks)
    row_graphs = (row_shows tree n shows ks (rights (production g p)) fits).1

    node_complete : Complete g Part (node p (row tree ks))
    node_complete = (part, (row_shows tree n shows ks (rights (production g p)) fits).0)

    node_shows :
        (graph : Graph) → Makes g Holds p (graphs_at entry ks) graph → Shows g Holds Part (production g p).left graph (node p (row tree ks))
    node_shows graph m =
        record {
          complete = node_complete;
          symbol = refl;
          is_graph = makes_graph g Holds p (graphs_at entry ks) (row tree ks) row_graphs graph m;
        }

    node_circle : Circle (OverGraphs g Holds p (graphs_at entry ks)) → Circle (TreeEdge g (node p (row tree ks)))
    node_circle c = (graphs_circle g Holds p (graphs_at entry ks) (row tree ks) row_graphs).1 (inl c)

  -- the first `count` entries are each made by a production over earlier entries
  module _ (count : ℕ) (derived : (k : ℕ) → k < count → Derived g Holds Part entry k) where
    levels_show : (d k : ℕ) → k < d → k < count → ShowsEntry k (levels entry d k)
    levels_show zero k l m = absurd (omega arith)
    levels_show (suc d) k l m =
        let v = derived k m in
        subst (λ (s : ℕ). Shows g Holds Part s (entry k).graph (levels entry (suc d) k)) v.left
        (node_shows (levels entry d) k (λ j h. levels_show d j (omega arith) (omega arith)) (entry k).production (entry k).kids
        v.part v.right (entry k).graph v.made)

    -- the shown tree of each entry is complete, with its symbol and graph
    pub entry_shown : (k : ℕ) → k < count → Shows g Holds Part (entry k).symbol (entry k).graph (shown_entry entry k)
    entry_shown k l = levels_show (suc k) k (omega arith) l

    module _ (p : ℕ) (ks : List ℕ) (part : Part p) (fits : KidsBelow entry count ks (rights (production g p))) where
      pub shown_graphs : AreGraphs g Holds (graphs_at entry ks) (row (shown_entry entry) ks)
      shown_graphs = row_graphs (shown_entry entry) count entry_shown p ks part fits

      pub shown_complete : Complete g Part (shown entry p ks)
      shown_complete = node_complete (shown_entry entry) count entry_shown p ks part fits

      -- its graph is what the production makes of its entries' graphs
      pub shown_graph :
          (graph : Graph) → Makes g Holds p (graphs_at entry ks) graph
          → Shows g Holds Part (production g p).left graph (shown entry p ks)
      shown_graph = node_shows (shown_entry entry) count entry_shown p ks part fits

      -- a circle of the root's compound graph over its entries' graphs is in the shown tree
      pub shown_circle : Circle (OverGraphs g Holds p (graphs_at entry ks)) → Circle (TreeEdge g (shown entry p ks))
      shown_circle = node_circle (shown_entry entry) count entry_shown p ks part fits

    -- ---- the shown tree of an entry is its production over the shown trees of its entry numbers

    same_row : (s t : ℕ → Tree) (n : ℕ) → ((k : ℕ) → k < n → s k ≡ t k) → (ks ss : List ℕ) → KidsBelow entry n ks ss → row s ks ≡ row t ks
    same_row s t n h [] [] w = refl
    same_row s t n h [] (x ∷ ss) w = absurd w
    same_row s t n h (k ∷ ks) [] w = absurd w
    same_row s t n h (k ∷ ks) (x ∷ ss) (l, e, w) = ap₂ cons (h k l) (same_row s t n h ks ss w)

    -- levels past the k-th change nothing
    enough_levels : (d e k : ℕ) → k < d → k < e → k < count → levels entry d k ≡ levels entry e k
    enough_levels zero e k l m c = absurd (omega arith)
    enough_levels (suc d) zero k l m c = absurd (omega arith)
    enough_levels (suc d) (suc e) k l m c =
        ap (node (entry k).production)
        (same_row (levels entry d) (levels entry e) k (λ j h. enough_levels d e j (omega arith) (omega arith) (omega arith))
        (entry k).kids (rights (production g (entry k).production)) (derived k c).right)

    pub shown_again : (k : ℕ) → k < count → shown_entry entry k ≡ shown entry (entry k).production (entry k).kids
    shown_again k l =
        ap (node (entry k).production)
        (same_row (levels entry k) (shown_entry entry) k (λ j h. enough_levels k (suc j) j h (omega arith) (omega arith))
        (entry k).kids (rights (production g (entry k).production)) (derived k l).right)
