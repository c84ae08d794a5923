-- The small grammars: production 0 over production 1 has a circle in B and none in A; C has no tree at all. Assumes nothing.
use mathlib.Core.List.Memᴰ
use mathlib.Core.List.{List, [], ◌∷◌, Memᴰ}
use mathlib.Core.Logic.{inl, inr}
use mathlib.Core.Path.{◌≡◌, refl}
use Prim.Native.Nat.{ℕ, zero, suc, ◌≤◌, ◌<◌}
use native.Mathlib.Omega.{arith}
use lib.ListN.{length, replicate}
use Rattle.numbers.specs.Number.{bit}
use Rattle.numbers.specs.Lists.{up_from, keep}
use Rattle.numbers.specs.Paths.{one, snoc, Circle}
use Rattle.grammar.specs.declared.Symbol.{Symbol}
use Rattle.grammar.specs.declared.Production.{Production}
use Rattle.grammar.specs.declared.Edge.{Edge}
use Rattle.grammar.specs.Grammar.{production, symbol_at, edges_of}
use Rattle.grammar.specs.Rules.{GoodEdge}
use Rattle.trees.specs.Tree.{Tree, node, Kids, nil, cons, Complete, OneEach, InTable, Instance, here, under, at, instance_of, instances, Link, Own, Joined, TreeEdge, KidEdge, Circular, WellFormed, AtMost}
use Rattle.graph.specs.Rows.{link, own, placed_to, placed_from, compound}
use Rattle.graph.specs.Compound.{CompoundEdge}
use Rattle.graph.specs.Search.{circle_of}
use Rattle.graph.specs.Marks.{masks_of}
use Rattle.graph.specs.Trails.{circle_trail}
use Rattle.graph.specs.Opened.{opened_search}
use Rattle.trees.specs.Record.{Entry, shown}
use Rattle.trees.specs.Said.{rows_over}
use Rattle.trees.specs.Small.{small_edge, with_edges, grammar_a, grammar_b, grammar_c, zero_over_one}
use Rattle.numbers.proofs.Members.{at_cons}
use Rattle.trees.proofs.Paths.{no_circle}

-- ---- B

pub complete_b : Complete grammar_b (InTable grammar_b) zero_over_one
complete_b = (omega arith, (refl, (omega arith, tt), tt))

-- where a subtree is missing, or has another symbol at its root than 1, the tree is not complete
pub missing_b : ¬ Complete grammar_b (InTable grammar_b) (node 0 nil)
missing_b w = w.1

pub wrong_symbol_b : ¬ Complete grammar_b (InTable grammar_b) (node 0 (cons zero_over_one nil))
wrong_symbol_b w = omega (arith, w.1.0)

pub values_b : instances grammar_b zero_over_one ≡ at 1 0 ∷ at 1 1 ∷ at 1 2 ∷ at 1 3 ∷ []
unfolding up_from
values_b = refl

linked : {es : List Edge} (e : Edge) → Memᴰ e es → Link es e.production (instance_of e.source) (instance_of e.target)
linked e m = record { edge = e; among = m; which = refl; from = refl; to = refl }

-- the four edges of the circle
pub edges_b :
    TreeEdge grammar_b zero_over_one (at 1 0) (at 1 2)
    × TreeEdge grammar_b zero_over_one (at 1 2) (at 1 1)
    × TreeEdge grammar_b zero_over_one (at 1 1) (at 1 3)
    × TreeEdge grammar_b zero_over_one (at 1 3) (at 1 0)
edges_b = (
  Joined.kid {i = 0} (Joined.own (linked (small_edge 1 0 0 0 2) (Memᴰ.tail (Memᴰ.tail (Memᴰ.head refl))))),
  Joined.own (linked (small_edge 0 1 2 1 1) (Memᴰ.head refl)),
  Joined.kid {i = 0} (Joined.own (linked (small_edge 1 0 1 0 3) (Memᴰ.tail (Memᴰ.tail (Memᴰ.tail (Memᴰ.head refl)))))),
  Joined.own (linked (small_edge 0 1 3 1 0) (Memᴰ.tail (Memᴰ.head refl))),
)

pub circle_b : Circle (TreeEdge grammar_b zero_over_one)
circle_b = (at 1 0, snoc (snoc (snoc (one edges_b.0) edges_b.1) edges_b.2) edges_b.3)

pub circular_b : Circular grammar_b (InTable grammar_b)
circular_b = (zero_over_one, complete_b, circle_b)

-- the same over numbers: 8 → 10 → 9 → 11 → 8, where 2052 is the graph of production 1
pub numbered_b :
    CompoundEdge 8 (edges_of grammar_b 0) (2052 ∷ []) 8 10
    × CompoundEdge 8 (edges_of grammar_b 0) (2052 ∷ []) 10 9
    × CompoundEdge 8 (edges_of grammar_b 0) (2052 ∷ []) 9 11
    × CompoundEdge 8 (edges_of grammar_b 0) (2052 ∷ []) 11 8
unfolding keep
numbered_b = (
  inr (record { k = 0; given = omega arith; pair = record { a = 0; b = 2; a_lt = omega arith; b_lt = omega arith; from = refl; to = refl; there = refl } }),
  inl (record { edge = small_edge 0 1 2 1 1; given = Memᴰ.head refl; from = refl; to = refl }),
  inr (record { k = 0; given = omega arith; pair = record { a = 1; b = 3; a_lt = omega arith; b_lt = omega arith; from = refl; to = refl; there = refl } }),
  inl (record { edge = small_edge 0 1 3 1 0; given = Memᴰ.tail (Memᴰ.head refl); from = refl; to = refl }),
)

-- the entries that the passes store for B, of which the second is not used
abbrev entries_b : ℕ → Entry ℕ
entries_b zero = record { symbol = 1; graph = 2052; production = 1; kids = [] }
entries_b (suc k) = record { symbol = 1; graph = 2048; production = 2; kids = [] }

pub shown_b : shown entries_b 0 (0 ∷ []) ≡ zero_over_one
shown_b = refl

-- the circle that is found, computed: 8 pair 10 edge 9 pair 11 edge
pub trail_b :
    circle_trail 8 (masks_of grammar_b (production grammar_b 0)) (circle_of (rows_over 8 grammar_b entries_b 0 (0 ∷ [])))
    ≡ record { nodes = 8 ∷ 10 ∷ 9 ∷ 11 ∷ replicate 60 0; marks = 0 ∷ 1 ∷ 0 ∷ 1 ∷ replicate 60 0; len = 4 }
unfolding opened_search keep link own placed_to placed_from compound
trail_b = refl

-- ---- A

-- each edge leads one step on in the order 3, 0, 2, 1
abbrev step : ℕ → ℕ
step zero = 1
step (suc zero) = 3
step (suc (suc zero)) = 2
step (suc (suc (suc a))) = 0

abbrev rank : Instance → ℕ
rank (here a) = step a
rank (under i x) = rank x

-- whichever edge of A it is
cases_a :
    (P : Edge → Type 0) → P (small_edge 0 1 2 1 1) → P (small_edge 0 1 3 1 0) → P (small_edge 1 0 0 0 2) → P (small_edge 2 0 1 0 3)
    → (e : Edge) → Memᴰ e grammar_a.edges → P e
cases_a P a b c d e = at_cons P a (at_cons P b (at_cons P c (at_cons P d (λ m. absurd (Memᴰ.not-nil m)))))

own_up : (p : ℕ) → p ≤ 1 → (x y : Instance) → Own grammar_a p x y → rank x < rank y
own_up p l x y h =
    rw (h.from, h.to)
    (cases_a (λ e. e.production ≡ p → rank (instance_of e.source) < rank (instance_of e.target))
    (λ q. omega arith) (λ q. omega arith) (λ q. omega arith) (λ q. absurd (omega arith)) h.edge h.among h.which)

leaf_up : (x y : Instance) → TreeEdge grammar_a (node 1 nil) x y → rank x < rank y
leaf_up x y (Joined.own o) = own_up 1 (omega arith) x y o
leaf_up x y (Joined.kid k) = elim k [ ]

kid_up : (i : ℕ) (x y : Instance) → KidEdge grammar_a (cons (node 1 nil) nil) i x y → rank x < rank y
kid_up zero x y e = leaf_up x y e
kid_up (suc i) x y e = absurd e

edge_up : (x y : Instance) → TreeEdge grammar_a zero_over_one x y → rank x < rank y
edge_up x y (Joined.own o) = own_up 0 (omega arith) x y o
edge_up x y (Joined.kid {i = i} {x = u} {y = v} k) = kid_up i u v k

pub no_circle_a : ¬ Circle (TreeEdge grammar_a zero_over_one)
no_circle_a = no_circle rank edge_up

-- ---- C

-- its production has a circle in its own edges, but no tree is ever complete
pub own_circle_c : Circle (Own grammar_c 0)
own_circle_c = (at 1 0, one (linked (small_edge 0 1 0 1 0) (Memᴰ.head refl)))

mutual
  no_tree_c : (t : Tree) → ¬ Complete grammar_c (InTable grammar_c) t
  no_tree_c (node p ks) w = let e : p ≡ 0 = omega (arith, w.0) in no_kid_c ks (rw e at w.1)

  no_kid_c : (ks : Kids) → ¬ OneEach grammar_c (InTable grammar_c) ks (0 ∷ [])
  no_kid_c nil w = w
  no_kid_c (cons t ks) w = no_tree_c t w.1

pub noncircular_c : ¬ Circular grammar_c (InTable grammar_c)
noncircular_c (t, w, c) = no_tree_c t w

-- ---- what the theorems ask of a grammar holds of both

slots_there : (es : List Edge) (p : Production) → Memᴰ p (with_edges es).productions → p.n ≤ length p.slots
slots_there es p = at_cons P (omega arith) (at_cons P (omega arith) (at_cons P (omega arith) (λ m. absurd (Memᴰ.not-nil m))))
  where
    P : Production → Type 0
    P q = q.n ≤ length q.slots

pub at_most_eight : (es : List Edge) → AtMost 8 (with_edges es)
at_most_eight es s = at_cons P (omega arith) (at_cons P (omega arith) (λ m. absurd (Memᴰ.not-nil m)))
  where
    P : Symbol → Type 0
    P q = q.count ≤ 8

-- a target is inherited where it belongs to the right symbol, and synthesized where it belongs to the left one
module _ (es : List Edge) (a b : ℕ) (la : a < 4) (lb : b < 4) where
  good_0 : bit b 3 ≡ 1 → GoodEdge (with_edges es) (small_edge 0 1 a 1 b)
  unfolding symbol_at
  good_0 h =
      record {
        production_there = omega arith;
        source = record { occurrence = omega arith; attribute = la };
        target = record { occurrence = omega arith; attribute = lb };
        allowed = h;
      }

  good_1 : bit b 3 ≡ 0 → GoodEdge (with_edges es) (small_edge 1 0 a 0 b)
  unfolding symbol_at
  good_1 h =
      record {
        production_there = omega arith;
        source = record { occurrence = omega arith; attribute = la };
        target = record { occurrence = omega arith; attribute = lb };
        allowed = h;
      }

  good_2 : bit b 3 ≡ 0 → GoodEdge (with_edges es) (small_edge 2 0 a 0 b)
  unfolding symbol_at
  good_2 h =
      record {
        production_there = omega arith;
        source = record { occurrence = omega arith; attribute = la };
        target = record { occurrence = omega arith; attribute = lb };
        allowed = h;
      }

pub well_formed_a : WellFormed grammar_a
well_formed_a =
    record {
      slots = slots_there grammar_a.edges;
      edges =
          cases_a (GoodEdge grammar_a) (good_0 _ 2 1 (omega arith) (omega arith) refl) (good_0 _ 3 0 (omega arith) (omega arith) refl)
          (good_1 _ 0 2 (omega arith) (omega arith) refl) (good_2 _ 1 3 (omega arith) (omega arith) refl);
    }

pub well_formed_b : WellFormed grammar_b
well_formed_b =
    record {
      slots = slots_there grammar_b.edges;
      edges =
          λ e. at_cons P (good_0 _ 2 1 (omega arith) (omega arith) refl) (at_cons P (good_0 _ 3 0 (omega arith) (omega arith) refl)
          (at_cons P (good_1 _ 0 2 (omega arith) (omega arith) refl) (at_cons P (good_1 _ 1 3 (omega arith) (omega arith) refl)
          (at_cons P (good_2 _ 1 3 (omega arith) (omega arith) refl) (λ m. absurd (Memᴰ.not-nil m))))));
    }
  where
    P : Edge → Type 0
    P = GoodEdge grammar_b
