-- Trees from the start symbol: their subtrees are the complete trees all of whose productions take part. So a circle, and a pair of symbol and
-- graph, that trees of productions that take part have, is one that they have. Assumes nothing.
use mathlib.Core.List.{List, [], ◌++◌}
use mathlib.Core.Logic.{◌↔◌}
use mathlib.Core.Path.{◌≡◌, refl, ◌∙◌}
use Prim.Native.Nat.{ℕ}
use Rattle.numbers.specs.Paths.{one, Circle}
use Rattle.grammar.specs.Grammar.{Grammar}
use Rattle.trees.specs.Tree.{Tree, node, root_symbol, Complete, InTable, TreeEdge, Circular}
use Rattle.trees.specs.Address.{inside, Subtree, whole}
use Rattle.trees.specs.Record.{OfTree}
use Rattle.trees.specs.TakesPart.{RootedAt, FromStart, TakesPart, CircularFromStart, PairFromStart}
use Rattle.trees.proofs.Paths.{image}
use Rattle.trees.proofs.Addresses.{edge_inside}
use Rattle.trees.proofs.Subtrees.{sub_sub, sub_complete, replace, complete_by}

module _ (g : Grammar) where
  pub from_complete : (t : Tree) → FromStart g t → Complete g (InTable g) t
  from_complete t f = sub_complete g (InTable g) f.there f.rooted.complete

  -- ---- circles

  -- a circle of a subtree is a circle of the whole tree
  pub circle_inside : {t s : Tree} {d : List ℕ} → Subtree t d s → Circle (TreeEdge g s) → Circle (TreeEdge g t)
  circle_inside {d = d} z (x, p) = (inside d x, image (inside d) (λ u v e. one (edge_inside g z u v e)) p)

  -- so where no tree from the start symbol has a circle, none of its subtrees has one
  pub circle_from_start : (t : Tree) → FromStart g t → Circle (TreeEdge g t) → CircularFromStart g
  circle_from_start t f o = (f.tree, f.rooted, circle_inside f.there o)

  -- ---- from one tree to another

  pub from_root : (t : Tree) → RootedAt g g.start t → FromStart g t
  from_root t r = record { tree = t; rooted = r; address = []; there = whole }

  -- a subtree of a subtree
  pub from_below : (t u : Tree) (d : List ℕ) → FromStart g t → Subtree t d u → FromStart g u
  from_below t u d f z =
      record { tree = f.tree; rooted = f.rooted; address = f.address ++ d; there = sub_sub f.there z }

  -- a tree with the same symbol at its root, in the place of a subtree
  pub from_other : (t u : Tree) → FromStart g t → Complete g (InTable g) u → root_symbol g u ≡ root_symbol g t → FromStart g u
  from_other t u f c e =
      let r = replace g (InTable g) f.there f.rooted.complete u c e in
      record {
        tree = r.0;
        rooted = record { complete = r.1; root = r.2 ∙ f.rooted.root };
        address = f.address;
        there = r.3;
      }

  -- ---- what takes part

  pub part_in_table : (p : ℕ) → TakesPart g p → InTable g p
  part_in_table p part = (from_complete _ part.from_start).0

  -- a complete tree all of whose productions take part is a subtree of a tree from the start symbol, and every such subtree is one
  pub parts_from_start : (t : Tree) → Complete g (TakesPart g) t ↔ FromStart g t
  parts_from_start (node p ks) = (
    λ c.
        from_other _ (node p ks) c.0.from_start
        (complete_by g (TakesPart g) (InTable g) (node p ks) c (λ d q js z. part_in_table q))
        refl,
    λ f.
        complete_by g (InTable g) (TakesPart g) (node p ks) (from_complete (node p ks) f)
        (λ d q js z _. record { kids = js; from_start = from_below (node p ks) (node q js) d f z }),
  )

-- over any way to tell which productions take part
module _ (g : Grammar) (Part : ℕ → Type 0) (exactly : (p : ℕ) → Part p ↔ TakesPart g p) where
  pub told_from_start : (t : Tree) → Complete g Part t ↔ FromStart g t
  told_from_start t = (
    λ c. (parts_from_start g t).0 (complete_by g Part (TakesPart g) t c (λ d p ks z. (exactly p).0)),
    λ f. complete_by g (TakesPart g) Part t ((parts_from_start g t).1 f) (λ d p ks z. (exactly p).1),
  )

  -- the trees of these productions have a circle exactly if some tree from the start symbol has one
  pub circular_from_start : Circular g Part ↔ CircularFromStart g
  circular_from_start = (
    λ (t, c, o). circle_from_start g t ((told_from_start t).0 c) o,
    λ (t, r, o). (t, (told_from_start t).1 (from_root g t r), o),
  )

  -- their pairs of symbol and graph are those of the subtrees of trees from the start symbol
  pub pairs_from_start :
      (Graph : Type 0) (Holds : Graph → ℕ → ℕ → Type 0) (q : ℕ × Graph) → OfTree g Holds Part q ↔ PairFromStart g Holds q
  pairs_from_start Graph Holds q = (
    λ (t, s). record { tree = t; from_start = (told_from_start t).0 s.complete; symbol = s.symbol; is_graph = s.is_graph },
    λ s. (
      s.tree,
      record { complete = (told_from_start s.tree).1 s.from_start; symbol = s.symbol; is_graph = s.is_graph },
    ),
  )
