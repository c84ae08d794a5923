-- The composition: paths and circles of a tree are those of its root's compound graph over its subtrees' root graphs. Assumes nothing.
use mathlib.Core.Logic.{◌⊎◌, inl, inr, ◌↔◌}
use mathlib.Core.Path.{◌≡◌, refl, sym, subst}
use Prim.Native.Nat.{ℕ, zero, suc}
use Rattle.numbers.specs.Paths.{Plus, one, snoc, Circle}
use Rattle.grammar.specs.Grammar.{Grammar}
use Rattle.trees.specs.Tree.{node, Kids, Instance, here, under, at, Own, Joined, TreeEdge, KidEdge, RootGraph}
use Rattle.trees.specs.Compound.{Compound, OverKids}
use Rattle.trees.proofs.Paths.{Star, stay, go, star_plus, star_star, image}

-- an attribute of an occurrence of the root's production
data Occurs : Instance → Type 0 where
  root : {a : ℕ} → Occurs (here a)
  kid_root : {i a : ℕ} → Occurs (under i (here a))

module _
    (O : Instance → Instance → Type 0) (K : ℕ → Instance → Instance → Type 0)
    (occurs : (x y : Instance) → O x y → Occurs x × Occurs y) where
  abbrev T : Instance → Instance → Type 0
  T = Joined O K

  abbrev C : Instance → Instance → Type 0
  C = Compound O (λ i a b. Plus (K i) (here a) (here b))

  up : {i : ℕ} {x y : Instance} → Plus (K i) x y → Plus T (under i x) (under i y)
  up {i} p = image (under i) (λ _ _ k. one (Joined.kid k)) p

  -- each edge of the compound graph is a path of the tree
  expand_edge : (x y : Instance) → C x y → Plus T x y
  expand_edge x y (Compound.own o) = one (Joined.own o)
  expand_edge x y (Compound.pair r) = up r

  expand : {x y : Instance} → Plus C x y → Plus T x y
  expand p = image (λ x. x) expand_edge p

  -- What is known of y, reached from s: the last edge was the root's own, or one of the i-th subtree, which was entered at its root's
  -- attribute a.
  data Seen (s : Instance) : Instance → Type 0 where
    top : {y : Instance} → Occurs y → Plus C s y → Seen s y
    inside : {i a : ℕ} {y : Instance} → Star C s (under i (here a)) → Plus (K i) (here a) y → Seen s (under i y)

  enter : {s : Instance} {i : ℕ} {x y : Instance} → Occurs (under i x) → Star C s (under i x) → K i x y → Seen s (under i y)
  enter kid_root p k = inside p (one k)

  leave :
      {s : Instance} {i a : ℕ} {y : Instance}
      → Occurs (under i y) → Star C s (under i (here a)) → Plus (K i) (here a) y
      → Plus C s (under i y)
  leave kid_root p q = star_plus p (one (Compound.pair q))

  first_seen : {s y : Instance} → Occurs s → T s y → Seen s y
  first_seen {s} {y} h (Joined.own o) = top (occurs s y o).1 (one (Compound.own o))
  first_seen h (Joined.kid k) = enter h stay k

  next : {s x y : Instance} → Seen s x → T x y → Seen s y
  next {x = x} {y = y} (top h p) (Joined.own o) = top (occurs x y o).1 (snoc p (Compound.own o))
  next (top h p) (Joined.kid k) = enter h (go p) k
  next {x = x} {y = y} (inside p q) (Joined.own o) =
      top (occurs x y o).1 (snoc (leave (occurs x y o).0 p q) (Compound.own o))
  next (inside p q) (Joined.kid k) = inside p (snoc q k)

  seen : {s y : Instance} → Occurs s → Plus T s y → Seen s y
  seen h (one e) = first_seen h e
  seen h (snoc p e) = next (seen h p) e

  done : {s y : Instance} → Occurs y → Seen s y → Plus C s y
  done h (top _ p) = p
  done h (inside p q) = leave h p q

  compose : {x y : Instance} → Occurs x → Occurs y → Plus T x y ↔ Plus C x y
  compose hx hy = (λ p. done hy (seen hx p), expand)

  -- a path of the tree has an edge of the root's own, or lies in one subtree
  data Split : Instance → Instance → Type 0 where
    through : {x y u v : Instance} → Star T x u → O u v → Star T v y → Split x y
    within : {i : ℕ} {x y : Instance} → Plus (K i) x y → Split (under i x) (under i y)

  split_edge : {x y : Instance} → T x y → Split x y
  split_edge (Joined.own o) = through stay o stay
  split_edge (Joined.kid k) = within (one k)

  more : {x y z : Instance} → Split x y → T y z → Split x z
  more (through p o q) e = through p o (go (star_plus q (one e)))
  more (within p) (Joined.own o) = through (go (up p)) o stay
  more (within p) (Joined.kid k) = within (snoc p k)

  split : {x y : Instance} → Plus T x y → Split x y
  split (one e) = split_edge e
  split (snoc p e) = more (split p) e

  circle_at : {x y : Instance} → Split x y → x ≡ y → Circle C ⊎ ((i : ℕ) × Circle (K i))
  circle_at (through {u = u} {v = v} p o q) e =
      let h = (occurs u v o).1 in
      inl (v, (compose h h).0 (star_plus (star_star q (rw e at p)) (one (Joined.own o))))
  circle_at (within {i = i} {x = x} {y = y} p) e =
      let d : y ≡ x = cc in
      inr (i, (x, rw d at p))

  circle : {x : Instance} → Split x x → Circle C ⊎ ((i : ℕ) × Circle (K i))
  circle s = circle_at s refl

  lift : Circle C ⊎ ((i : ℕ) × Circle (K i)) → Circle T
  lift (inl c) = (c.0, expand c.1)
  lift (inr k) = (under k.0 k.1.0, up k.1.1)

  circles : Circle T ↔ (Circle C ⊎ ((i : ℕ) × Circle (K i)))
  circles = (λ c. circle (split c.1), lift)

-- ---- the same of a production's edges over a tree's kids

at_occurs : (o a : ℕ) → Occurs (at o a)
at_occurs zero a = root
at_occurs (suc i) a = kid_root

own_occurs : (g : Grammar) (p : ℕ) (x y : Instance) → Own g p x y → Occurs x × Occurs y
own_occurs g p x y h = (
  subst Occurs (sym h.from) (at_occurs h.edge.source.occurrence h.edge.source.attribute),
  subst Occurs (sym h.to) (at_occurs h.edge.target.occurrence h.edge.target.attribute),
)

module _ (g : Grammar) (p : ℕ) (ks : Kids) where
  -- a path between attributes of the root's occurrences: in the tree, and in the compound graph over the subtrees' root graphs
  pub tree_paths : (o a q b : ℕ) → Plus (TreeEdge g (node p ks)) (at o a) (at q b) ↔ Plus (OverKids g p ks) (at o a) (at q b)
  tree_paths o a q b = compose (Own g p) (KidEdge g ks) (own_occurs g p) (at_occurs o a) (at_occurs q b)

  pub root_graph_lem : (a b : ℕ) → RootGraph g (node p ks) a b ↔ Plus (OverKids g p ks) (here a) (here b)
  root_graph_lem a b = tree_paths 0 a 0 b

  pub circle_below : Circle (TreeEdge g (node p ks)) ↔ (Circle (OverKids g p ks) ⊎ ((i : ℕ) × Circle (KidEdge g ks i)))
  circle_below = circles (Own g p) (KidEdge g ks) (own_occurs g p)
