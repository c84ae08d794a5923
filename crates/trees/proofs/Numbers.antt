-- Graphs as numbers: they are told apart by their pairs, and the compound graph has the same paths and circles over numbers.
-- Assumes nothing.
use mathlib.Core.List.{List, [], ◌∷◌, Memᴰ}
use mathlib.Core.Logic.{inl, inr, ◌↔◌}
use mathlib.Core.Path.{◌≡◌, refl, sym, ◌∙◌, ap, ap₂, subst₂}
use Prim.Native.Nat.{ℕ, zero, suc, ◌+◌, ◌*◌, ◌/◌, ◌%◌, ◌^◌, ◌≤◌, ◌<◌}
use native.Mathlib.Nat.{add-zero, div-lt_iff_lt-mul, mul-add-div, mul-add-mod_self_left, div-eq_of_lt, mod-eq_of_lt, mod-lt, div-add-mod}
use native.Mathlib.Numerals.{one-add}
use native.Mathlib.Omega.{arith}
use lib.Dec.{eqb}
use lib.ListN.{length, get_or}
use borrow.Author.Tests.{eqb-true, eq-eqb}
use Rattle.numbers.specs.Number.{bit}
use Rattle.numbers.specs.Paths.{Plus, one, Circle}
use Rattle.numbers.proofs.Bits.{bit_lt, same_bit, same_bits}
use Rattle.numbers.proofs.Members.{keep_at, keep_mem}
use Rattle.numbers.proofs.Ways.{first_edge, last_edge}
use Rattle.grammar.specs.declared.Symbol.{Symbol}
use Rattle.grammar.specs.declared.Production.{Production}
use Rattle.grammar.specs.declared.Node.{Node}
use Rattle.grammar.specs.declared.Edge.{Edge}
use Rattle.grammar.specs.Grammar.{Grammar, no_symbol, production, symbol_at, edges_of}
use Rattle.grammar.specs.Rules.{NodeThere}
use Rattle.graph.specs.Compound.{CompoundEdge}
use Rattle.trees.specs.Tree.{Instance, here, under, at, value_at, WellFormed, AtMost}
use Rattle.trees.specs.Address.{attribute}
use Rattle.trees.specs.Compound.{Compound, IthHolds, OverGraphs, Makes, NumberHolds}
use Rattle.trees.proofs.Lists.{get_d_each}
use Rattle.trees.proofs.Paths.{image}

-- ---- graphs below 2 to the power w * w are told apart by their pairs

-- the number k of a pair is w * a + b for attributes a and b below w
pair_of : (w k : ℕ) → k < w * w → (k / w < w) × (k % w < w) × (w * (k / w) + k % w ≡ k)
pair_of zero k h = absurd (omega arith)
pair_of (suc w) k h =
    ((div-lt_iff_lt-mul {k = suc w} (omega arith)).1 h, mod-lt k (omega arith), div-add-mod k (suc w))

pub told_apart :
    (w x y : ℕ) → x < 2 ^ (w * w) → y < 2 ^ (w * w) → ((a b : ℕ) → NumberHolds w x a b ↔ NumberHolds w y a b) → x ≡ y
told_apart w x y hx hy f = same_bits (w * w) x y hx hy (λ k h. by k (pair_of w k h))
  where
    by : (k : ℕ) → (k / w < w) × (k % w < w) × (w * (k / w) + k % w ≡ k) → bit k x ≡ bit k y
    by k (ha, hb, e) =
        same_bit (bit k x) (bit k y) (bit_lt k x) (bit_lt k y) (
          λ q. rw e at ((f (k / w) (k % w)).0 (record { from = ha; to = hb; worth = rw e q })).worth,
          λ q. rw e at ((f (k / w) (k % w)).1 (record { from = ha; to = hb; worth = rw e q })).worth,
        )

-- ---- the numbers of nodes

abbrev number : ℕ → Instance → ℕ
number w (here a) = a
number w (under i x) = w * suc i + number w x

number_at : (w o a : ℕ) → number w (at o a) ≡ w * o + a
number_at w zero a = omega arith
number_at w (suc i) a = refl

value_at_lem : (w o a : ℕ) → a < w → value_at w (w * o + a) ≡ at o a
value_at_lem w o a h =
    let pos : 0 < w = omega arith in
    let d : (w * o + a) / w ≡ o = mul-add-div pos o a ∙ ap (λ (n : ℕ). o + n) (div-eq_of_lt h) ∙ add-zero o in
    ap₂ at d (mul-add-mod_self_left w o a ∙ mod-eq_of_lt h)

attribute_at : (o a : ℕ) → attribute (at o a) ≡ a
attribute_at zero a = refl
attribute_at (suc i) a = refl

-- ---- the k-th graph

ith_number :
    (w : ℕ) (graphs : List ℕ) (k a b : ℕ)
    → k < length graphs → NumberHolds w (get_or graphs k 0) a b → IthHolds (NumberHolds w) graphs k a b
ith_number w [] k a b l h = absurd (omega arith)
ith_number w (graph ∷ graphs) zero a b l h = h
ith_number w (graph ∷ graphs) (suc k) a b l h = ith_number w graphs k a b (omega arith) h

number_ith :
    (w : ℕ) (graphs : List ℕ) (k a b : ℕ)
    → IthHolds (NumberHolds w) graphs k a b → (k < length graphs) × NumberHolds w (get_or graphs k 0) a b
number_ith w [] k a b h = absurd h
number_ith w (graph ∷ graphs) zero a b h = (omega arith, h)
number_ith w (graph ∷ graphs) (suc k) a b h = let r = number_ith w graphs k a b h in (omega (arith, r.0), r.1)

-- ---- the compound graph, of a grammar whose edges are good and whose symbols have at most w attributes
module _ (w : ℕ) (g : Grammar) (formed : WellFormed g) (few : AtMost w g) (p : ℕ) (graphs : List ℕ) where
  abbrev C : Instance → Instance → Type 0
  C = OverGraphs g (NumberHolds w) p graphs

  abbrev N : ℕ → ℕ → Type 0
  N = CompoundEdge w (edges_of g p) graphs

  there_below : (q : Production) (x : Node) → NodeThere g q x → x.attribute < w
  there_below q x h =
      omega (
        arith,
        h.attribute,
        get_d_each (λ (s : Symbol). s.count ≤ w) g.symbols no_symbol (omega arith) few (symbol_at q x.occurrence),
      )

  pub source_below : (e : Edge) → Memᴰ e g.edges → e.source.attribute < w
  source_below e m = there_below (production g e.production) e.source (formed.edges e m).source

  pub target_below : (e : Edge) → Memᴰ e g.edges → e.target.attribute < w
  target_below e m = there_below (production g e.production) e.target (formed.edges e m).target

  pub own_edge : (e : Edge) → Memᴰ e (edges_of g p) → Memᴰ e g.edges × (e.production ≡ p)
  own_edge e m = let k = keep_mem (λ (d : Edge). eqb d.production p) g.edges m in (k.0, eqb-true e.production p k.1)

  to_number : (x y : Instance) → C x y → N (number w x) (number w y)
  to_number x y (Compound.own h) =
      inl (record {
        edge = h.edge;
        given = keep_at (λ (d : Edge). eqb d.production p) g.edges h.among (eq-eqb h.edge.production p h.which);
        from = ap (number w) h.from ∙ number_at w h.edge.source.occurrence h.edge.source.attribute;
        to = ap (number w) h.to ∙ number_at w h.edge.target.occurrence h.edge.target.attribute;
      })
  to_number x y (Compound.pair {i = k} {a = a} {b = b} r) =
      let h = number_ith w graphs k a b r in
      let e = one-add k in
      inr (record {
        k = k;
        given = h.0;
        pair = record { a = a; b = b; a_lt = h.1.from; b_lt = h.1.to; from = rw e; to = rw e; there = h.1.worth };
      })

  of_number : (n m : ℕ) → N n m → C (value_at w n) (value_at w m)
  of_number n m (inl h) =
      let e = h.edge in
      let k = own_edge e h.given in
      Compound.own
      (record {
        edge = e;
        among = k.0;
        which = k.1;
        from = ap (value_at w) h.from ∙ value_at_lem w e.source.occurrence e.source.attribute (source_below e k.0);
        to = ap (value_at w) h.to ∙ value_at_lem w e.target.occurrence e.target.attribute (target_below e k.0);
      })
  of_number n m (inr h) =
      let q = h.pair in
      let e = one-add h.k in
      subst₂ C (sym (ap (value_at w) (rw e at q.from) ∙ value_at_lem w (suc h.k) q.a q.a_lt))
      (sym (ap (value_at w) (rw e at q.to) ∙ value_at_lem w (suc h.k) q.b q.b_lt))
      (Compound.pair (ith_number w graphs h.k q.a q.b h.given (record { from = q.a_lt; to = q.b_lt; worth = q.there })))

  -- the compound graph has the same paths over the numbers of its nodes
  pub numbered_paths :
      (o a q b : ℕ) → a < w → b < w
      → Plus (OverGraphs g (NumberHolds w) p graphs) (at o a) (at q b) ↔ Plus (CompoundEdge w (edges_of g p) graphs) (w * o + a) (w * q + b)
  numbered_paths o a q b ha hb = (
    λ r. subst₂ (Plus N) (number_at w o a) (number_at w q b) (image (number w) (λ x y e. one (to_number x y e)) r),
    λ r. subst₂ (Plus C) (value_at_lem w o a ha) (value_at_lem w q b hb) (image (value_at w) (λ n m e. one (of_number n m e)) r),
  )

  -- and a circle exactly if it has one over them
  pub numbered_circles : Circle (OverGraphs g (NumberHolds w) p graphs) ↔ Circle (CompoundEdge w (edges_of g p) graphs)
  numbered_circles = (
    λ c. (number w c.0, image (number w) (λ x y e. one (to_number x y e)) c.1),
    λ c. (value_at w c.0, image (value_at w) (λ n m e. one (of_number n m e)) c.1),
  )

  -- all attributes on its edges are below w
  edge_below : (x y : Instance) → C x y → (attribute x < w) × (attribute y < w)
  edge_below x y (Compound.own h) =
      let s = source_below h.edge h.among in
      let t = target_below h.edge h.among in
      let u = ap attribute h.from ∙ attribute_at h.edge.source.occurrence h.edge.source.attribute in
      let v = ap attribute h.to ∙ attribute_at h.edge.target.occurrence h.edge.target.attribute in
      (rw u s, rw v t)
  edge_below x y (Compound.pair {i = k} {a = a} {b = b} r) = let h = (number_ith w graphs k a b r).1 in (h.from, h.to)

  -- a number is what the production makes of the graphs, if its bits are the paths between the numbers below w
  pub numbered_makes :
      (graph : ℕ)
      → ((a b : ℕ) → a < w → b < w → (bit (w * a + b) graph ≡ 1) ↔ Plus (CompoundEdge w (edges_of g p) graphs) a b)
      → Makes g (NumberHolds w) p graphs graph
  numbered_makes graph f a b = (there, back)
    where
      z : (c : ℕ) → w * 0 + c ≡ c
      z c = omega arith

      there : NumberHolds w graph a b → Plus C (here a) (here b)
      there h = (numbered_paths 0 a 0 b h.from h.to).1 (rw (z a, z b) ((f a b h.from h.to).0 h.worth))

      back : Plus C (here a) (here b) → NumberHolds w graph a b
      back r =
          let s = first_edge r in
          let e = last_edge r in
          let ha = (edge_below (here a) s.0 s.1).0 in
          let hb = (edge_below e.0 (here b) e.1).1 in
          record { from = ha; to = hb; worth = (f a b ha hb).1 (rw (z a, z b) at ((numbered_paths 0 a 0 b ha hb).0 r)) }
