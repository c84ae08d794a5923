-- The rule finds the productions that take part, and no others; the trees made of them are the subtrees of trees from the start symbol.
-- Assumes nothing.
use mathlib.Core.Bool.{Bool}
use mathlib.Core.List.Memᴰ
use mathlib.Core.List.{List, [], ◌∷◌, Memᴰ}
use mathlib.Core.Logic.{◌↔◌}
use mathlib.Core.Path.{◌≡◌, refl, sym, ap, subst}
use Prim.Native.Nat.{ℕ, ◌<◌}
use native.Mathlib.Omega.{arith}
use lib.ListN.{length}
use Rattle.numbers.specs.Lists.{up_from}
use Rattle.numbers.proofs.Decides.{Decides}
use Rattle.numbers.proofs.Members.{at_cons, member_at, keep_at, keep_mem, up_from_at, up_from_mem}
use Rattle.numbers.proofs.Ordered.{stands_at}
use Rattle.grammar.specs.declared.Production.{Production}
use Rattle.grammar.specs.Grammar.{Grammar, production, rights, no_production}
use Rattle.trees.specs.Tree.{Tree, node, Kids, nil, cons, root_symbol, Complete, OneEach, InTable}
use Rattle.trees.specs.Address.{Subtree, whole, down}
use Rattle.trees.specs.TakesPart.{HasTree, FromStart, TakesPart}
use Rattle.trees.proofs.Subtrees.{kid_symbol, kid_complete, kid_of}
use Rattle.trees.proofs.Starts.{from_root, from_complete, from_below, from_other, told_from_start, circular_from_start, pairs_from_start}
use Rattle.parts.specs.Sets.{Symbols}
use Rattle.parts.specs.Rule.{treed, reached, takes_part, taking}
use Rattle.parts.specs.Exactly.{Numbered, Found, ExactlyNumbered}
use Rattle.parts.proofs.Sets.{In}
use Rattle.parts.proofs.Rule.{AllIn, both_in, treed_closed, treed_holds, start_reached, reached_closed, reached_holds}

-- the trees of some symbols in a row
kids_of : (g : Grammar) (ss : List ℕ) → ((s : ℕ) → Memᴰ s ss → HasTree g s) → (ks : Kids) × OneEach g (InTable g) ks ss
kids_of g [] h = (nil, tt)
kids_of g (s ∷ ss) h =
    let t = h s (Memᴰ.head refl) in
    let r = kids_of g ss (λ u m. h u (Memᴰ.tail m)) in
    (cons t.0 r.0, (t.1.root, t.1.complete, r.1))

-- a production of the list by its number
by_number : (g : Grammar) (p : Production) → Memᴰ p g.productions → (i : ℕ) × InTable g i × (p ≡ production g i)
by_number g p m = stands_at no_production p g.productions m

module _ (g : Grammar) (numbered : Numbered g) where
  -- the symbols that have a finite tree, and those that are reached, as the rule finds them
  abbrev T : Symbols
  T = treed g

  abbrev R : Symbols
  R = reached g (treed g)

  in_list : (i : ℕ) → InTable g i → Memᴰ (production g i) g.productions
  in_list i l = member_at no_production g.productions i l

  left_low : (i : ℕ) → InTable g i → (production g i).left < 256
  left_low i l = omega (arith, numbered.few, numbered.left (production g i) (in_list i l))

  right_low : (i : ℕ) → InTable g i → (s : ℕ) → Memᴰ s (rights (production g i)) → s < 256
  right_low i l s m = omega (arith, numbered.few, numbered.right (production g i) (in_list i l) s m)

  -- ---- the symbols that have a finite tree

  -- a production of the table over trees of its right symbols
  over_trees :
      (i : ℕ) → InTable g i → ((s : ℕ) → Memᴰ s (rights (production g i)) → HasTree g s)
      → (ks : Kids) × Complete g (InTable g) (node i ks)
  over_trees i l h = let k = kids_of g (rights (production g i)) h in (k.0, (l, k.1))

  treed_sound : (s : ℕ) → In T s → HasTree g s
  treed_sound =
      treed_holds g (HasTree g)
      (λ p m h.
      let i = by_number g p m in
      let r = over_trees i.0 i.1 (λ s o. h s (subst (λ q. Memᴰ s (rights q)) (sym i.2) o)) in
      (node i.0 r.0, record { complete = r.1; root = ap (λ q. q.left) (sym i.2) }))

  mutual
    root_treed : (t : Tree) → Complete g (InTable g) t → In T (root_symbol g t)
    root_treed (node p ks) c =
        treed_closed g (production g p) (in_list p c.0) (λ s m. kids_treed ks (rights (production g p)) c.1 s m)
        (left_low p c.0)

    kids_treed : (ks : Kids) (ss : List ℕ) → OneEach g (InTable g) ks ss → (s : ℕ) → Memᴰ s ss → In T s
    kids_treed nil [] o s m = absurd (Memᴰ.not-nil m)
    kids_treed nil (r ∷ ss) o s m = absurd o
    kids_treed (cons t ks) [] o s m = absurd o
    kids_treed (cons t ks) (r ∷ ss) (e, c, o) s m =
        at_cons (In T) (subst (In T) e (root_treed t c)) (λ k. kids_treed ks ss o s k) m

  -- the rule finds the symbols that have a finite tree
  pub treed_exactly : (s : ℕ) → In T s ↔ HasTree g s
  treed_exactly s = (treed_sound s, λ (t, r). subst (In T) r.root (root_treed t r.complete))

  -- ---- the symbols that are reached

  -- s stands at the root of a subtree of a tree from the start symbol
  abbrev pub Reach : ℕ → Type 0
  Reach s = (t : Tree) × FromStart g t × (root_symbol g t ≡ s)

  -- a production of a reached symbol stands in a tree from the start symbol, over trees of its right symbols
  standing : (i : ℕ) → InTable g i → Reach (production g i).left → AllIn T (rights (production g i)) → TakesPart g i
  standing i l (t, f, e) h =
      let r = over_trees i l (λ s m. treed_sound s (h s m)) in
      record { kids = r.0; from_start = from_other g t (node i r.0) f r.1 (sym e) }

  -- each right symbol of a production that takes part is reached
  right_reach : (i : ℕ) → TakesPart g i → (s : ℕ) → Memᴰ s (rights (production g i)) → Reach s
  right_reach i part s m =
      let f = part.from_start in
      let c = from_complete g (node i part.kids) f in
      let k = kid_of g (InTable g) part.kids (rights (production g i)) c.1 s m in
      (k.0, from_below g (node i part.kids) k.0 (k.1 ∷ []) f (down k.2 whole), k.3)

  reached_sound : (s : ℕ) → In R s → Reach s
  reached_sound =
      reached_holds g T Reach
      (λ h. let t = treed_sound g.start h in (t.0, from_root g t.0 t.1, t.1.root))
      (λ p m r h s k.
      let i = by_number g p m in
      right_reach i.0
      (standing i.0 i.1
      (subst (λ q. Reach q.left) i.2 r)
      (λ s o. h s (subst (λ q. Memᴰ s (rights q)) (sym i.2) o)))
      s (subst (λ q. Memᴰ s (rights q)) i.2 k))

  reached_down : {t s : Tree} {d : List ℕ} → Subtree t d s → Complete g (InTable g) t → In R (root_symbol g t) → In R (root_symbol g s)
  reached_down whole c h = h
  reached_down (down {p = p} {ks = ks} k z) c h =
      let ss = rights (production g p) in
      let m = kid_symbol g (InTable g) k ss c.1 in
      reached_down z (kid_complete g (InTable g) k ss c.1)
      (reached_closed g T (production g p) (in_list p c.0) h (kids_treed ks ss c.1) _ m (right_low p c.0 _ m))

  root_reached : (t : Tree) → FromStart g t → In R (root_symbol g t)
  root_reached t f =
      reached_down f.there f.rooted.complete
      (subst (In R) (sym f.rooted.root)
      (start_reached g T ((treed_exactly g.start).1 (f.tree, f.rooted)) (omega (arith, numbered.few, numbered.start))))

  -- the rule finds the symbols at the roots of subtrees of trees from the start symbol
  pub reached_exactly : (s : ℕ) → In R s ↔ Reach s
  reached_exactly s = (reached_sound s, λ (t, f, e). subst (In R) e (root_reached t f))

  -- ---- the productions that take part

  abbrev takes : ℕ → Bool
  takes p = takes_part T R (production g p)

  takes_decides : (p : ℕ) → Decides (takes_part T R (production g p)) (In R (production g p).left × AllIn T (rights (production g p)))
  unfolding takes_part
  takes_decides p = both_in T R (production g p)

  found : (p : ℕ) → Found g p → InTable g p × In R (production g p).left × AllIn T (rights (production g p))
  unfolding taking
  found p m =
      let k = keep_mem takes (up_from 0 (length g.productions)) m in
      let w = (takes_decides p).so k.1 in
      (omega (arith, (up_from_mem 0 (length g.productions) k.0).1), w.0, w.1)

  find : (p : ℕ) → InTable g p → In R (production g p).left → AllIn T (rights (production g p)) → Found g p
  unfolding taking
  find p l r h =
      keep_at takes (up_from 0 (length g.productions))
      (up_from_at 0 (length g.productions) p (omega arith) (omega arith))
      ((takes_decides p).passes (r, h))

  found_exactly : (p : ℕ) → Found g p ↔ TakesPart g p
  found_exactly p = (
    λ m. let w = found p m in standing p w.0 (reached_sound (production g p).left w.1) w.2,
    λ part.
        let f = part.from_start in
        let c = from_complete g (node p part.kids) f in
        find p c.0 (root_reached (node p part.kids) f) (kids_treed part.kids (rights (production g p)) c.1),
  )

no_member : {A : Type 0} (l : List A) → ((x : A) → ¬ Memᴰ x l) → l ≡ []
no_member [] h = refl
no_member (x ∷ l) h = absurd (h x (Memᴰ.head refl))

-- the rule is exact
pub exactly_numbered : ExactlyNumbered
exactly_numbered g numbered =
    record {
      takes_part = found_exactly g numbered;
      subtrees = told_from_start g (Found g) (found_exactly g numbered);
      circular = circular_from_start g (Found g) (found_exactly g numbered);
      pairs = pairs_from_start g (Found g) (found_exactly g numbered);
      nothing = λ no_tree.
          no_member (taking g)
          (λ p m. let f = ((found_exactly g numbered p).0 m).from_start in no_tree (f.tree, f.rooted));
    }
