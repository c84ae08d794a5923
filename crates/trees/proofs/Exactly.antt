-- The listed values are exactly the attributes of the nodes, each once. Assumes nothing.
use mathlib.Core.List.Memᴰ
use mathlib.Core.List.{List, map, Memᴰ}
use mathlib.Core.Logic.{◌⊎◌, inl, inr, ⊎_map, ◌↔◌}
use mathlib.Core.Path.{◌≡◌, sym, ◌∙◌, ap, subst}
use Prim.Native.Nat.{ℕ, suc, ◌+◌, ◌<◌}
use native.Mathlib.Omega.{arith}
use Rattle.numbers.specs.Lists.{up_from, Distinct}
use Rattle.grammar.specs.Grammar.{Grammar, symbol, production}
use Rattle.trees.specs.Tree.{Tree, node, Kids, nil, cons, Instance, here, under, instances, kid_instances}
use Rattle.trees.specs.Address.{address, attribute, Kid, first, later, Subtree, whole, down, HasValue}
use Rattle.numbers.proofs.Members.{up_from_mem}
use Rattle.numbers.proofs.Distinct.{distinct_up_from, distinct_map, distinct_append}
use Rattle.trees.proofs.Values.{ith, value_root, value_under}

module _ (g : Grammar) where
  -- the attributes of the root
  abbrev roots : ℕ → List Instance
  roots p = map here (up_from 0 (symbol g (production g p).left).count)

  -- y is x in the i-th of the kids, of which the first is the j-th
  record KidHasValue (ks : Kids) (j : ℕ) (y : Instance) : Type 0 where
    i : ℕ
    t : Tree
    x : Instance
    is : y ≡ under (i + j) x
    kid : Kid ks i t
    there : HasValue g t x

  stands_down : (p : ℕ) (ks : Kids) (y : Instance) → KidHasValue ks 0 y → HasValue g (node p ks) y
  stands_down p ks y k =
      let e : k.i + 0 ≡ k.i = omega arith in
      subst (HasValue g (node p ks)) (sym (k.is ∙ ap (λ (n : ℕ). under n k.x) e))
      (record {
        p = k.there.p;
        ks = k.there.ks;
        node_there = down k.kid k.there.node_there;
        attribute_there = k.there.attribute_there;
      })

  stands_node : (p : ℕ) (ks : Kids) (y : Instance) → Memᴰ y (roots p) ⊎ KidHasValue ks 0 y → HasValue g (node p ks) y
  stands_node p ks y (inl m) =
      let r = Memᴰ.of_map here (up_from 0 (symbol g (production g p).left).count) m in
      subst (HasValue g (node p ks)) r.2
      (record { p = p; ks = ks; node_there = whole; attribute_there = omega (arith, (up_from_mem 0 _ r.1).1) })
  stands_node p ks y (inr k) = stands_down p ks y k

  kid_later : (t : Tree) (ks : Kids) (j : ℕ) (y : Instance) → KidHasValue ks (suc j) y → KidHasValue (cons t ks) j y
  kid_later t ks j y k =
      let z : k.i + suc j ≡ suc k.i + j = omega arith in
      record {
        i = suc k.i;
        t = k.t;
        x = k.x;
        is = k.is ∙ ap (λ (n : ℕ). under n k.x) z;
        kid = later k.kid;
        there = k.there;
      }

  kid_stands_node :
      (t : Tree) (ks : Kids) (j : ℕ) (y : Instance) → ((x : Instance) → Memᴰ x (instances g t) → HasValue g t x)
      → Memᴰ y (map (under j) (instances g t)) ⊎ KidHasValue ks (suc j) y → KidHasValue (cons t ks) j y
  kid_stands_node t ks j y f (inl m) =
      let r = Memᴰ.of_map (under j) (instances g t) m in
      let z : j ≡ 0 + j = omega arith in
      record { i = 0; t = t; x = r.0; is = sym r.2 ∙ ap (λ (n : ℕ). under n r.0) z; kid = first; there = f r.0 r.1 }
  kid_stands_node t ks j y f (inr k) = kid_later t ks j y k

  mutual
    stands : (t : Tree) (y : Instance) → Memᴰ y (instances g t) → HasValue g t y
    stands (node p ks) y m = stands_node p ks y (⊎_map (λ r. r) (λ k. kid_stands ks 0 y k) (Memᴰ.append_cases (roots p) m))

    kid_stands : (ks : Kids) (j : ℕ) (y : Instance) → Memᴰ y (kid_instances g ks j) → KidHasValue ks j y
    kid_stands nil j y m = absurd (Memᴰ.not-nil m)
    kid_stands (cons t ks) j y m =
        kid_stands_node t ks j y (λ x k. stands t x k)
        (⊎_map (λ r. r) (λ k. kid_stands ks (suc j) y k) (Memᴰ.append_cases (map (under j) (instances g t)) m))

  of_kid : {ks : Kids} {i : ℕ} {t : Tree} (x : Instance) → Kid ks i t → Memᴰ x (instances g t) → Memᴰ x (ith g ks i)
  of_kid x first m = m
  of_kid x (later k) m = of_kid x k m

  listed :
      (x : Instance) {t : Tree} (p : ℕ) (ks : Kids)
      → Subtree t (address x) (node p ks) → attribute x < (symbol g (production g p).left).count
      → Memᴰ x (instances g t)
  listed (here a) p ks whole l = value_root g (node p ks) a l
  listed (under i x) p ks (down {p = q} {ks = js} k s) l = value_under g q js i x (of_kid x k (listed x p ks s l))

  -- x is listed exactly if a node stands at its address whose symbol has its attribute
  pub exactly : (t : Tree) (x : Instance) → Memᴰ x (instances g t) ↔ HasValue g t x
  exactly t x = (stands t x, λ s. listed x s.p s.ks s.node_there s.attribute_there)

  -- ---- each once

  root_or_kid : (p : ℕ) (ks : Kids) (y : Instance) → Memᴰ y (roots p) → ¬ Memᴰ y (kid_instances g ks 0)
  root_or_kid p ks y m n =
      let r = Memᴰ.of_map here (up_from 0 (symbol g (production g p).left).count) m in
      let k = kid_stands ks 0 y n in
      let e : here r.0 ≡ under (k.i + 0) k.x = r.2 ∙ k.is in
      let z : ◌≡◌ {A = ℕ} 0 1 = cc in
      omega (arith, z)

  this_or_later :
      (t : Tree) (ks : Kids) (j : ℕ) (y : Instance)
      → Memᴰ y (map (under j) (instances g t)) → ¬ Memᴰ y (kid_instances g ks (suc j))
  this_or_later t ks j y m n =
      let r = Memᴰ.of_map (under j) (instances g t) m in
      let k = kid_stands ks (suc j) y n in
      let e : under j r.0 ≡ under (k.i + suc j) k.x = r.2 ∙ k.is in
      let z : j ≡ k.i + suc j = cc in
      omega (arith, z)

  mutual
    pub once : (t : Tree) → Distinct (instances g t)
    once (node p ks) =
        distinct_append (roots p) (kid_instances g ks 0)
        (distinct_map here (up_from 0 (symbol g (production g p).left).count) (λ a b k m e. cc) (distinct_up_from 0 _))
        (kid_once ks 0) (root_or_kid p ks)

    kid_once : (ks : Kids) (j : ℕ) → Distinct (kid_instances g ks j)
    kid_once nil j = tt
    kid_once (cons t ks) j =
        distinct_append (map (under j) (instances g t)) (kid_instances g ks (suc j))
        (distinct_map (under j) (instances g t) (λ x y k m e. cc) (once t)) (kid_once ks (suc j)) (this_or_later t ks j)
