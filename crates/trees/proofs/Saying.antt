-- Each node on a circle of a root's compound graph is a value of the tree that lies on a circle of the tree's attribute graph, so no evaluator
-- computes it; each pair of an entry's graph is a path of its production's compound graph. Over the number w of attributes. Assumes nothing.
use mathlib.Core.Bool.{true}
use mathlib.Core.List.{List, [], ◌∷◌, Memᴰ}
use mathlib.Core.Logic.{inl, inr, ⊎_elim}
use mathlib.Core.Path.{◌≡◌, refl, sym, ap, ◌∙◌, subst₂}
use Prim.Native.Nat.{ℕ, suc, ◌+◌, ◌*◌, ◌/◌, ◌%◌, ◌<◌}
use native.Mathlib.Nat.{div-add-mod, mod-lt, mul-suc}
use native.Mathlib.Omega.{arith}
use lib.ListN.{length, get_or, length-map}
use Rattle.numbers.specs.Paths.{Plus}
use Rattle.numbers.proofs.Ways.{first_edge}
use Rattle.grammar.specs.Grammar.{Grammar, production, rights, edges_of}
use Rattle.graph.specs.Rows.{compound, closure, has_circle}
use Rattle.graph.specs.Compound.{CompoundEdge}
use Rattle.graph.specs.Paths.{Linked, IsPath, IsCircle}
use Rattle.graph.specs.Search.{path_of, circle_of}
use Rattle.graph.specs.Marks.{masks_of, marks_of}
use Rattle.graph.proofs.Compound.{length_compound, compound_paths}
use Rattle.graph.proofs.Chains.{circle_through, plus_chain}
use Rattle.graph.proofs.PathFound.{path_right, path_long}
use Rattle.graph.proofs.CircleFound.{circle_exactly}
use Rattle.graph.proofs.Marks.{links_marked}
use Rattle.trees.specs.Tree.{node, Kids, nil, cons, Complete, OneEach, value_at, TreeEdge, WellFormed, AtMost}
use Rattle.trees.specs.Compound.{AreGraphs, NumberHolds}
use Rattle.trees.specs.Evaluator.{start}
use Rattle.trees.specs.Record.{Entry, row, shown_entry, KidsBelow, graphs_at, Derived}
use Rattle.trees.specs.Said.{Waits, rows_over, MarkedOver, Said, Spelled}
use Rattle.trees.proofs.Compose.{tree_paths}
use Rattle.trees.proofs.Values.{length_rights}
use Rattle.trees.proofs.Graphs.{same_paths}
use Rattle.trees.proofs.Numbers.{source_below, own_edge, numbered_paths}
use Rattle.trees.proofs.Evaluators.{left_over}
use Rattle.trees.proofs.Shown.{graphs_count, shown_graphs, shown_complete}
use Rattle.trees.proofs.EndsUp.{within, all_allowed, entries_end_up}

-- there is a graph for each subtree
are_count : (g : Grammar) (Holds : ℕ → ℕ → ℕ → Type 0) (Part : ℕ → Type 0) (graphs : List ℕ) (ks : Kids) (ss : List ℕ)
    → AreGraphs g Holds graphs ks → OneEach g Part ks ss → length graphs ≡ length ss
are_count g Holds Part [] nil [] a o = refl
are_count g Holds Part [] nil (s ∷ ss) a o = absurd o
are_count g Holds Part [] (cons t ks) ss a o = absurd a
are_count g Holds Part (x ∷ graphs) nil ss a o = absurd a
are_count g Holds Part (x ∷ graphs) (cons t ks) [] a o = absurd o
are_count g Holds Part (x ∷ graphs) (cons t ks) (s ∷ ss) a o = ap suc (are_count g Holds Part graphs ks ss a.1 o.2)

module _ (w : ℕ) (g : Grammar) (formed : WellFormed g) (few : AtMost w g) where
  module _ (p : ℕ) (graphs : List ℕ) (count : length graphs ≡ (production g p).n) where
    -- there are attributes where there are links
    some : (i j : ℕ) → CompoundEdge w (edges_of g p) graphs i j → 0 < w
    some i j (inl h) = omega (arith, source_below w g formed few p graphs h.edge (own_edge w g formed few p graphs h.edge h.given).0)
    some i j (inr h) = omega (arith, h.pair.a_lt)

    -- a circle of the compound graph through a node is one of the tree through its value
    tree_circle : (ks : Kids) → AreGraphs g (NumberHolds w) graphs ks → (n : ℕ) → Plus (Linked (compound w (edges_of g p) graphs)) n n
        → Plus (TreeEdge g (node p ks)) (value_at w n) (value_at w n)
    tree_circle ks are n q =
        let c = (compound_paths w (edges_of g p) graphs (within w g formed few p graphs count) n n).0 q in
        let f = first_edge c in
        let l = mod-lt n (some n f.0 f.1) in
        let e = sym (div-add-mod n w) in
        (tree_paths g p ks (n / w) (n % w) (n / w) (n % w)).1
        ((same_paths g (NumberHolds w) p graphs ks are).0
        ((numbered_paths w g formed few p graphs (n / w) (n % w) (n / w) (n % w) l l).1
        (subst₂ (Plus (CompoundEdge w (edges_of g p) graphs)) e e c)))

  -- ---- in a complete tree
  module _ (Part : ℕ → Type 0) (p : ℕ) (ks : Kids) (complete : Complete g Part (node p ks)) (graphs : List ℕ)
      (are : AreGraphs g (NumberHolds w) graphs ks) where
    pub circle_waits : (c : List ℕ) → IsCircle (compound w (edges_of g p) graphs) c → (i : ℕ) → Memᴰ i c → Waits g (node p ks) (value_at w i)
    circle_waits c h i m =
        let count = are_count g (NumberHolds w) Part graphs ks (rights (production g p)) are complete.1 ∙ length_rights g formed p in
        let q = tree_circle p graphs count ks are i (circle_through (compound w (edges_of g p) graphs) c h i m) in
        record {
          among = (left_over g formed Part (node p ks) complete start (value_at w i) q).0;
          circle = q;
          never = λ {n} {d} r. (left_over g formed Part (node p ks) complete r (value_at w i) q).1;
        }

  -- ---- over derived entries
  module _ (Part : ℕ → Type 0) (entry : ℕ → Entry ℕ) where
    over_marked :
        (n : ℕ) → ((k : ℕ) → k < n → Derived g (NumberHolds w) Part entry k)
        → (p : ℕ) (ks : List ℕ) → KidsBelow entry n ks (rights (production g p))
        → (x y : ℕ) (c : List ℕ) → IsPath (rows_over w g entry p ks) x y c
        → MarkedOver w g entry p ks c y (marks_of w (masks_of g (production g p)) c y)
    over_marked n derived p ks fits =
        let gs = graphs_at entry ks in
        links_marked w (edges_of g p) gs (masks_of g (production g p)) (within w g formed few p gs (graphs_count g formed entry n p ks fits))
        (all_allowed w g formed few p gs) (entries_end_up w g formed few Part entry n derived p ks fits)

    module _ (n : ℕ) (derived : (k : ℕ) → k < n → Derived g (NumberHolds w) Part entry k) where
      -- where the circle test says yes, the circle that is found says all that is asked
      pub circle_said_lem :
          (p : ℕ) (ks : List ℕ) → KidsBelow entry n ks (rights (production g p)) → Part p → has_circle (closure (rows_over w g entry p ks)) ≡ true
          → let c = circle_of (rows_over w g entry p ks) in Said w g entry p ks c (marks_of w (masks_of g (production g p)) c (get_or c 0 0))
      circle_said_lem p ks fits part h =
          let c = circle_of (rows_over w g entry p ks) in
          let t = (circle_exactly (rows_over w g entry p ks)).0 h in
          record {
            circle = t;
            links = over_marked n derived p ks fits (get_or c 0 0) (get_or c 0 0) c t.circle;
            waits =
                circle_waits Part p (row (shown_entry entry) ks) (shown_complete g (NumberHolds w) Part entry n derived p ks part fits)
                (graphs_at entry ks) (shown_graphs g (NumberHolds w) Part entry n derived p ks part fits) c t.circle;
          }

      -- each pair of an entry's graph has a path in the compound graph of its production over its entry numbers
      pub pair_spelled :
          (k : ℕ) → k < n → (a b : ℕ) → NumberHolds w (entry k).graph a b
          → let c = path_of (rows_over w g entry (entry k).production (entry k).kids) a b in
          Spelled w g entry k a b c (marks_of w (masks_of g (production g (entry k).production)) c b)
      pair_spelled k l a b h =
          let d = derived k l in
          let p = (entry k).production in
          let ks = (entry k).kids in
          let gs = graphs_at entry ks in
          let rows = rows_over w g entry p ks in
          let edges = within w g formed few p gs (graphs_count g formed entry k p ks d.right) in
          let za : w * 0 + a ≡ a = omega arith in
          let zb : w * 0 + b ≡ b = omega arith in
          let r = rw (za, zb) at ((numbered_paths w g formed few p gs 0 a 0 b h.from h.to).0 ((d.made a b).0 h)) in
          let c = plus_chain rows ((compound_paths w (edges_of g p) gs edges a b).1 r) in
          let size = length_compound w (edges_of g p) gs in
          let there : b < length rows = omega (arith, h.to, mul-suc w (length gs)) in
          let t = ⊎_elim (λ t. t) (λ none. absurd (none.1 (a ∷ c.0) (refl, c.1))) (path_right rows a b there) in
          record {
            path = t;
            links = over_marked k (λ j m. derived j (omega arith)) p ks d.right a b (path_of rows a b) t.path;
            long = omega (arith, path_long rows a b, ap (λ (m : ℕ). w * suc m) (length-map ks (λ j. (entry j).graph)));
          }
