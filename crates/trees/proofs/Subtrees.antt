-- Subtrees of complete trees are complete, a subtree at an address can be replaced by another with the same symbol at its root, and a tree is
-- complete by what holds of the production at each node. Assumes nothing.
use mathlib.Core.List.Memᴰ
use mathlib.Core.List.{List, [], ◌∷◌, ◌++◌, Memᴰ}
use mathlib.Core.Logic.{⊎_elim}
use mathlib.Core.Path.{◌≡◌, refl, sym, ◌∙◌}
use Prim.Native.Nat.{ℕ, suc}
use Rattle.grammar.specs.Grammar.{Grammar, production, rights}
use Rattle.trees.specs.Tree.{Tree, node, Kids, nil, cons, root_symbol, Complete, OneEach}
use Rattle.trees.specs.Address.{Kid, first, later, Subtree, whole, down}

-- a subtree of a subtree
pub sub_sub : {t s u : Tree} {d e : List ℕ} → Subtree t d s → Subtree s e u → Subtree t (d ++ e) u
sub_sub whole w = w
sub_sub (down k z) w = down k (sub_sub z w)

module _ (g : Grammar) (Part : ℕ → Type 0) where
  -- ---- kids

  pub kid_complete : {ks : Kids} {i : ℕ} {t : Tree} → Kid ks i t → (ss : List ℕ) → OneEach g Part ks ss → Complete g Part t
  kid_complete first [] o = absurd o
  kid_complete first (s ∷ ss) (e, c, o) = c
  kid_complete (later k) [] o = absurd o
  kid_complete (later k) (s ∷ ss) (e, c, o) = kid_complete k ss o

  -- the root symbol of a kid is one of the right symbols
  pub kid_symbol :
      {ks : Kids} {i : ℕ} {t : Tree} → Kid ks i t → (ss : List ℕ) → OneEach g Part ks ss → Memᴰ (root_symbol g t) ss
  kid_symbol first [] o = absurd o
  kid_symbol first (s ∷ ss) (e, c, o) = Memᴰ.head e
  kid_symbol (later k) [] o = absurd o
  kid_symbol (later k) (s ∷ ss) (e, c, o) = Memᴰ.tail (kid_symbol k ss o)

  -- each right symbol has a kid
  pub kid_of :
      (ks : Kids) (ss : List ℕ) → OneEach g Part ks ss
      → (s : ℕ) → Memᴰ s ss → (t : Tree) × (i : ℕ) × Kid ks i t × (root_symbol g t ≡ s)
  kid_of nil [] o s m = absurd (Memᴰ.not-nil m)
  kid_of nil (r ∷ ss) o s m = absurd o
  kid_of (cons t ks) [] o s m = absurd o
  kid_of (cons t ks) (r ∷ ss) (e, c, o) s m =
      ⊎_elim
      (λ q. (t, 0, first, e ∙ sym q))
      (λ n. let k = kid_of ks ss o s n in (k.0, suc k.1, later k.2, k.3))
      (Memᴰ.cases_cons m)

  replace_kid :
      {ks : Kids} {i : ℕ} {t : Tree} → Kid ks i t → (ss : List ℕ) → OneEach g Part ks ss
      → (u : Tree) → Complete g Part u → root_symbol g u ≡ root_symbol g t
      → (js : Kids) × OneEach g Part js ss × Kid js i u
  replace_kid first [] o u c q = absurd o
  replace_kid (first {ks = ks}) (s ∷ ss) (e, d, o) u c q = (cons u ks, (q ∙ e, c, o), first)
  replace_kid (later k) [] o u c q = absurd o
  replace_kid (later {u = t} k) (s ∷ ss) (e, d, o) u c q =
      let r = replace_kid k ss o u c q in
      (cons t r.0, (e, d, r.1), later r.2)

  -- ---- subtrees

  pub sub_complete : {t s : Tree} {d : List ℕ} → Subtree t d s → Complete g Part t → Complete g Part s
  sub_complete whole c = c
  sub_complete (down {p = p} k z) c = sub_complete z (kid_complete k (rights (production g p)) c.1)

  -- u in the place of the subtree at d: the tree has the same symbol at its root, and is complete
  pub replace :
      {t s : Tree} {d : List ℕ} → Subtree t d s → Complete g Part t
      → (u : Tree) → Complete g Part u → root_symbol g u ≡ root_symbol g s
      → (v : Tree) × Complete g Part v × (root_symbol g v ≡ root_symbol g t) × Subtree v d u
  replace whole c u cu q = (u, cu, q, whole)
  replace (down {p = p} k z) c u cu q =
      let r = replace z (kid_complete k (rights (production g p)) c.1) u cu q in
      let n = replace_kid k (rights (production g p)) c.1 r.0 r.1 r.2 in
      (node p n.0, (c.0, n.1), refl, down n.2 r.3)

-- ---- where each node's production has P, and for that reason or by its place has Q
module _ (g : Grammar) (P Q : ℕ → Type 0) where
  mutual
    pub complete_by :
        (t : Tree) → Complete g P t
        → ((d : List ℕ) (p : ℕ) (ks : Kids) → Subtree t d (node p ks) → P p → Q p) → Complete g Q t
    complete_by (node p ks) c h = (
      h [] p ks whole c.0,
      each_by ks (rights (production g p)) c.1 (λ i u d q js k z. h (i ∷ d) q js (down k z)),
    )

    each_by :
        (ks : Kids) (ss : List ℕ) → OneEach g P ks ss
        → ((i : ℕ) (u : Tree) (d : List ℕ) (q : ℕ) (js : Kids) → Kid ks i u → Subtree u d (node q js) → P q → Q q)
        → OneEach g Q ks ss
    each_by nil [] o h = tt
    each_by nil (s ∷ ss) o h = absurd o
    each_by (cons t ks) [] o h = absurd o
    each_by (cons t ks) (s ∷ ss) (e, c, o) h = (
      e,
      complete_by t c (λ d q js z. h 0 t d q js first z),
      each_by ks ss o (λ i u d q js k z. h (suc i) u d q js (later k) z),
    )
