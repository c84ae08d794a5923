-- The attribute graph is the edges of all productions, each at its own node. Assumes nothing.
use mathlib.Core.List.{List, [], ◌∷◌}
use mathlib.Core.Logic.{◌↔◌}
use mathlib.Core.Path.{refl, ap, sym, subst₂}
use Prim.Native.Nat.{ℕ, zero, suc}
use Rattle.grammar.specs.Grammar.{Grammar}
use Rattle.trees.specs.Tree.{Tree, node, Kids, nil, cons, Instance, under, Joined, TreeEdge, KidEdge}
use Rattle.trees.specs.Address.{inside, Kid, first, later, Subtree, whole, down, AtNode}

module _ (g : Grammar) where
  kid_edge : {ks : Kids} {i : ℕ} {t : Tree} → Kid ks i t → (x y : Instance) → TreeEdge g t x y → KidEdge g ks i x y
  kid_edge first x y e = e
  kid_edge (later k) x y e = kid_edge k x y e

  lower :
      {p i : ℕ} {ks : Kids} {x y : Instance}
      → ((t : Tree) × Kid ks i t × AtNode g t x y) → AtNode g (node p ks) (under i x) (under i y)
  lower {i = i} (t, k, n) =
      record {
        d = i ∷ n.d;
        p = n.p;
        ks = n.ks;
        u = n.u;
        v = n.v;
        stands = down k n.stands;
        edge = n.edge;
        from = ap (under i) n.from;
        to = ap (under i) n.to;
      }

  mutual
    to_node : (t : Tree) (x y : Instance) → TreeEdge g t x y → AtNode g t x y
    to_node (node p ks) x y (Joined.own o) =
        record { d = []; p = p; ks = ks; u = x; v = y; stands = whole; edge = o; from = refl; to = refl }
    to_node (node p ks) x y (Joined.kid {i = i} {x = u} {y = v} k) = lower (kid_node ks i u v k)

    kid_node : (ks : Kids) (i : ℕ) (x y : Instance) → KidEdge g ks i x y → (t : Tree) × Kid ks i t × AtNode g t x y
    kid_node nil i x y e = absurd e
    kid_node (cons t ks) zero x y e = (t, first, to_node t x y e)
    kid_node (cons t ks) (suc i) x y e = let r = kid_node ks i x y e in (r.0, later r.1, r.2)

  -- an edge of a subtree is an edge of the whole tree
  pub edge_inside :
      {t s : Tree} {d : List ℕ} → Subtree t d s → (u v : Instance) → TreeEdge g s u v → TreeEdge g t (inside d u) (inside d v)
  edge_inside whole u v e = e
  edge_inside (down {d = d} k s) u v e = Joined.kid (kid_edge k (inside d u) (inside d v) (edge_inside s u v e))

  -- an edge of the tree is an edge of some node's production, at that node
  pub each_at_its_node : (t : Tree) (x y : Instance) → TreeEdge g t x y ↔ AtNode g t x y
  each_at_its_node t x y = (
    to_node t x y,
    λ n. subst₂ (TreeEdge g t) (sym n.from) (sym n.to) (edge_inside n.stands n.u n.v (Joined.own n.edge)),
  )
