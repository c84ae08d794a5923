-- The values of a tree: each source is among them, the root's inherited ones have no source, and an uncomputed source is found.
-- Assumes nothing.
use mathlib.Core.Bool.{Bool, true, false}
use mathlib.Core.List.Memᴰ
use mathlib.Core.List.{List, [], ◌∷◌, map, Memᴰ}
use mathlib.Core.Logic.{◌⊎◌, inl, inr, ⊎_elim}
use mathlib.Core.Path.{◌≡◌, refl, sym, ◌∙◌, subst, ap}
use Prim.Native.Nat.{ℕ, zero, suc, ◌+◌, ◌≤◌, ◌<◌}
use native.Mathlib.Decide.{ℕ_discrete}
use native.Mathlib.Omega.{arith}
use lib.ListN.{length, get_or}
use lib.Seq.{length-take-le}
use borrow.Author.Tests.{eqb-true}
use Rattle.numbers.specs.Number.{bit}
use Rattle.numbers.specs.Lists.{up_from}
use Rattle.grammar.specs.declared.Production.{Production}
use Rattle.grammar.specs.declared.Edge.{Edge}
use Rattle.grammar.specs.Grammar.{Grammar, no_production, symbol, production, rights, symbol_at}
use Rattle.grammar.specs.Rules.{Allowed}
use Rattle.trees.specs.Tree.{Tree, node, Kids, nil, cons, root_symbol, Complete, OneEach, Instance, here, under, same_instance, at, instance_of, instances, kid_instances, Link, Own, Joined, TreeEdge, KidEdge, WellFormed}
use Rattle.trees.specs.Evaluator.{Computed, given}
use Rattle.numbers.proofs.Members.{up_from_at}
use Rattle.trees.proofs.Lists.{get_d_each}

-- a production has as many right symbols as its n says
pub length_rights : (g : Grammar) → WellFormed g → (p : ℕ) → length (rights (production g p)) ≡ (production g p).n
length_rights g formed p =
    length-take-le (production g p).n (production g p).slots
    (get_d_each (λ (q : Production). q.n ≤ length q.slots) g.productions no_production (omega arith) formed.slots p)

module _ (g : Grammar) where
  -- ---- which values a tree has

  -- those of the i-th subtree
  abbrev pub ith : Kids → ℕ → List Instance
  ith nil i = []
  ith (cons t ks) zero = instances g t
  ith (cons t ks) (suc i) = ith ks i

  in_kids : (ks : Kids) (j i : ℕ) (x : Instance) → Memᴰ x (ith ks i) → Memᴰ (under (i + j) x) (kid_instances g ks j)
  in_kids nil j i x m = absurd (Memᴰ.not-nil m)
  in_kids (cons t ks) j zero x m =
      let e : 0 + j ≡ j = omega arith in
      Memᴰ.cast (ap (λ (n : ℕ). under n x) e) (Memᴰ.append_left _ (Memᴰ.map (under j) m))
  in_kids (cons t ks) j (suc i) x m =
      let e : suc i + j ≡ i + suc j = omega arith in
      Memᴰ.cast (ap (λ (n : ℕ). under n x) e) (Memᴰ.append_right (map (under j) (instances g t)) (in_kids ks (suc j) i x m))

  pub value_under : (p : ℕ) (ks : Kids) (i : ℕ) (x : Instance) → Memᴰ x (ith ks i) → Memᴰ (under i x) (instances g (node p ks))
  value_under p ks i x m =
      let e : i ≡ i + 0 = omega arith in
      Memᴰ.append_right (map here (up_from 0 (symbol g (production g p).left).count))
      (Memᴰ.cast (ap (λ (n : ℕ). under n x) e) (in_kids ks 0 i x m))

  pub value_root : (t : Tree) (a : ℕ) → a < (symbol g (root_symbol g t)).count → Memᴰ (here a) (instances g t)
  value_root (node p ks) a h = Memᴰ.append_left _ (Memᴰ.map here (up_from_at 0 _ a (omega arith) (omega arith)))

  module _ (Part : ℕ → Type 0) where
    value_kid :
        (ks : Kids) (ss : List ℕ) (i a : ℕ)
        → OneEach g Part ks ss → i < length ss → a < (symbol g (get_or ss i 0)).count
        → Memᴰ (here a) (ith ks i)
    value_kid nil [] i a w h l = absurd (omega arith)
    value_kid nil (s ∷ ss) i a w h l = absurd w
    value_kid (cons t ks) [] i a w h l = absurd w
    value_kid (cons t ks) (s ∷ ss) zero a w h l = value_root t a (subst (λ (r : ℕ). a < (symbol g r).count) (sym w.0) l)
    value_kid (cons t ks) (s ∷ ss) (suc i) a w h l = value_kid ks ss i a w.2 (omega arith) l

    -- the attributes of the root's occurrences are values
    value_at_lem :
        (p : ℕ) (ks : Kids) (o a : ℕ)
        → OneEach g Part ks (rights (production g p)) → o ≤ length (rights (production g p))
        → a < (symbol g (symbol_at (production g p) o)).count
        → Memᴰ (at o a) (instances g (node p ks))
    unfolding symbol_at
    value_at_lem p ks zero a w h l = value_root (node p ks) a l
    value_at_lem p ks (suc i) a w h l = value_under p ks i (here a) (value_kid ks (rights (production g p)) i a w h l)

  module _ (formed : WellFormed g) where
    -- ---- each source is a value of the tree
    module _ (Part : ℕ → Type 0) where
      own_source :
          (p : ℕ) (ks : Kids) (x y : Instance)
          → OneEach g Part ks (rights (production g p)) → Own g p x y
          → Memᴰ x (instances g (node p ks))
      own_source p ks x y w h =
          let v = rw h.which at (formed.edges h.edge h.among).source in
          Memᴰ.cast h.from
          (value_at_lem Part p ks h.edge.source.occurrence h.edge.source.attribute w
          (rw (length_rights g formed p) v.occurrence) v.attribute)

      mutual
        pub source_there : (t : Tree) → Complete g Part t → (x y : Instance) → TreeEdge g t x y → Memᴰ x (instances g t)
        source_there (node p ks) w x y (Joined.own o) = own_source p ks x y w.1 o
        source_there (node p ks) w x y (Joined.kid {i = i} {x = u} {y = v} k) =
            value_under p ks i u (kid_source_there ks (rights (production g p)) w.1 i u v k)

        kid_source_there :
            (ks : Kids) (ss : List ℕ) → OneEach g Part ks ss → (i : ℕ) (x y : Instance) → KidEdge g ks i x y → Memᴰ x (ith ks i)
        kid_source_there nil ss w i x y e = absurd e
        kid_source_there (cons t ks) [] w i x y e = absurd w
        kid_source_there (cons t ks) (s ∷ ss) w zero x y e = source_there t w.1 x y e
        kid_source_there (cons t ks) (s ∷ ss) w (suc i) x y e = kid_source_there ks ss w.2 i x y e

    -- ---- the root's inherited values have no source
    not_target :
        (p a o b : ℕ) → here a ≡ at o b → Allowed o (bit b (symbol g (symbol_at (production g p) o)).mask)
        → ¬ (bit a (symbol g (production g p).left).mask ≡ 1)
    unfolding symbol_at
    not_target p a zero b e h k =
        let f : a ≡ b = cc in
        let z : ◌≡◌ {A = ℕ} 1 0 = sym k ∙ ap (λ (c : ℕ). bit c (symbol g (production g p).left).mask) f ∙ h in
        omega (arith, z)
    not_target p a (suc i) b e h k = let z : ◌≡◌ {A = ℕ} 0 1 = cc in omega (arith, z)

    pub given_free : (t : Tree) (a : ℕ) (x : Instance) → given g t (here a) ≡ true → ¬ TreeEdge g t x (here a)
    given_free (node p ks) a x k (Joined.own o) =
        not_target p a o.edge.target.occurrence o.edge.target.attribute o.to
        (rw o.which at (formed.edges o.edge o.among).allowed) (eqb-true _ _ k)

-- ---- an uncomputed source is found, or there is none

-- an uncomputed x of a kind H, or the knowledge that all of the kind are computed
abbrev pub Search : (Instance → Type 0) → Computed Instance → Type 0
Search H c = ((x : Instance) × H x × (c x ≡ false)) ⊎ ((x : Instance) → H x → c x ≡ true)

either :
    {E F H : Instance → Type 0} (c : Computed Instance)
    → ((x : Instance) → E x → H x) → ((x : Instance) → F x → H x) → ((x : Instance) → H x → E x ⊎ F x)
    → Search E c → Search F c → Search H c
either c f g k (inl (x, e, u)) s = inl (x, f x e, u)
either c f g k (inr h) (inl (x, e, u)) = inl (x, g x e, u)
either c f g k (inr h) (inr l) = inr (λ x e. ⊎_elim (h x) (l x) (k x e))

module _ (p : ℕ) (c : Computed Instance) (y : Instance) where
  -- the edge e belongs to p and leads from x to y
  record Placed (e : Edge) (x : Instance) : Type 0 where
    which : e.production ≡ p
    from : x ≡ instance_of e.source
    to : y ≡ instance_of e.target

  find_one : (e : Edge) → Search (Placed e) c
  find_one e = by (ℕ_discrete e.production p) (same_instance y (instance_of e.target)) (c (instance_of e.source)) refl
    where
      by :
          Dec (e.production ≡ p) → Dec (y ≡ instance_of e.target) → (b : Bool) → c (instance_of e.source) ≡ b → Search (Placed e) c
      by (no n) r b s = inr (λ x h. absurd (n h.which))
      by (yes q) (no n) b s = inr (λ x h. absurd (n h.to))
      by (yes q) (yes r) true s = inr (λ x h. ap c h.from ∙ s)
      by (yes q) (yes r) false s = inl (instance_of e.source, record { which = q; from = refl; to = r }, s)

  find_among : (es : List Edge) → Search (λ x. Link es p x y) c
  find_among [] = inr (λ x h. absurd (Memᴰ.not-nil h.among))
  find_among (e ∷ es) =
      either c
      (λ x h. record { edge = e; among = Memᴰ.head refl; which = h.which; from = h.from; to = h.to })
      (λ x h. record { edge = h.edge; among = Memᴰ.tail h.among; which = h.which; from = h.from; to = h.to })
      (λ x h. by x h (Memᴰ.cases_cons h.among))
      (find_one e) (find_among es)
    where
      by : (x : Instance) (h : Link (e ∷ es) p x y) → (h.edge ≡ e) ⊎ Memᴰ h.edge es → Placed e x ⊎ Link es p x y
      by x h (inl q) = inl (subst (λ (d : Edge). Placed d x) q (record { which = h.which; from = h.from; to = h.to }))
      by x h (inr m) = inr (record { edge = h.edge; among = m; which = h.which; from = h.from; to = h.to })

module _ (O : Instance → Instance → Type 0) (K : ℕ → Instance → Instance → Type 0) (c : Computed Instance) where
  only_own : (b : ℕ) → ((x : Instance) → O x (here b) → c x ≡ true) → (x : Instance) → Joined O K x (here b) → c x ≡ true
  only_own b f x (Joined.own o) = f x o

  own_and_kid :
      (j : ℕ) (y : Instance)
      → ((x : Instance) → O x (under j y) → c x ≡ true) → ((x : Instance) → K j x y → c (under j x) ≡ true)
      → (x : Instance) → Joined O K x (under j y) → c x ≡ true
  own_and_kid j y f g x (Joined.own o) = f x o
  own_and_kid j y f g x (Joined.kid {x = u} k) = g u k

  find_joined :
      (y : Instance) → Search (λ x. O x y) c → ((j : ℕ) (v : Instance) → Search (λ x. K j x v) (λ x. c (under j x)))
      → Search (λ x. Joined O K x y) c
  find_joined (here b) (inl (x, o, u)) s = inl (x, Joined.own o, u)
  find_joined (here b) (inr f) s = inr (only_own b f)
  find_joined (under j y) (inl (x, o, u)) s = inl (x, Joined.own o, u)
  find_joined (under j y) (inr f) s = by (s j y)
    where
      by : Search (λ x. K j x y) (λ x. c (under j x)) → Search (λ x. Joined O K x (under j y)) c
      by (inl (x, k, u)) = inl (under j x, Joined.kid k, u)
      by (inr h) = inr (own_and_kid j y f h)

module _ (g : Grammar) where
  mutual
    pub find : (t : Tree) (c : Computed Instance) (y : Instance) → Search (λ x. TreeEdge g t x y) c
    find (node p ks) c y =
        find_joined (Own g p) (KidEdge g ks) c y (find_among p c y g.edges) (λ j v. find_kid ks j (λ x. c (under j x)) v)

    find_kid : (ks : Kids) (i : ℕ) (c : Computed Instance) (y : Instance) → Search (λ x. KidEdge g ks i x y) c
    find_kid nil i c y = inr (λ x e. absurd e)
    find_kid (cons t ks) zero c y = find t c y
    find_kid (cons t ks) (suc i) c y = find_kid ks i c y
