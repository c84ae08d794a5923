-- A link of a compound graph is an edge of the production or a pair of a subtree, never both, and the node that it leads to says which: where
-- the edges lead where the rules allow it, and the pairs of the subtrees' graphs end in synthesized attributes. The graphs that productions make
-- have such pairs, whatever they are made of. Over the number w of attributes. Assumes nothing.
use mathlib.Core.Bool.{true, false, true≢false}
use mathlib.Core.List.{List, [], ◌∷◌}
use mathlib.Core.Logic.{inl, inr}
use mathlib.Core.Path.{◌≡◌, refl, sym, ap, ap₂, ◌∙◌, subst₂}
use Prim.Native.Nat.{ℕ, suc, ◌+◌, ◌*◌, ◌/◌, ◌%◌, ◌≤◌, ◌<◌}
use native.Mathlib.Nat.{mul_comm}
use native.Mathlib.Numerals.{one-add}
use native.Mathlib.Omega.{arith}
use lib.Arith.{digits_div, digits_mod}
use lib.ListN.{length, get_or, length-append, length-map}
use Rattle.numbers.specs.Number.{bit}
use Rattle.numbers.specs.Paths.{Plus}
use Rattle.numbers.proofs.Decides.{not_so}
use Rattle.numbers.proofs.Members.{at_map}
use Rattle.numbers.proofs.Ranges.{at_below}
use Rattle.numbers.proofs.Ways.{last_edge}
use Rattle.grammar.specs.declared.Production.{Production}
use Rattle.grammar.specs.declared.Edge.{Edge}
use Rattle.grammar.specs.Grammar.{Grammar, symbol, symbol_at}
use Rattle.grammar.specs.Rules.{Allowed}
use Rattle.grammar.specs.Refusal.{allowed}
use Rattle.grammar.proofs.Decided.{target_decides}
use Rattle.graph.specs.Rows.{compound, closure, root_graph}
use Rattle.graph.specs.Compound.{EdgesWithin, OwnEdge, SubtreePair, CompoundEdge}
use Rattle.graph.specs.Paths.{Linked, IsPath}
use Rattle.graph.specs.Marks.{masks_of, edge_into, mark_of, mark_into, targets_of, marks_of, Marked, AllMarked, AllAllowed, EndsUp, KidsEndUp}
use Rattle.graph.proofs.Root.{one_pair}
use Rattle.graph.proofs.Compound.{compound_leads, compound_root}
use Rattle.graph.proofs.Chains.{path_at}

-- a link to attribute a of the occurrence o
into_at : (w : ℕ) (masks : List ℕ) (o a : ℕ) → a < w → edge_into w masks (w * o + a) ≡ allowed o (bit a (get_or masks o 0))
unfolding edge_into
into_at w masks o a l =
    let e : w * o + a ≡ o * w + a = omega (arith, mul_comm w o) in
    ap (λ (j : ℕ). allowed (j / w) (bit (j % w) (get_or masks (j / w) 0))) e
    ∙ ap₂ (λ (q r : ℕ). allowed q (bit r (get_or masks q 0))) (digits_div o l) (digits_mod o l)

length_targets : (c : List ℕ) (y : ℕ) → length (targets_of c y) ≡ length c
length_targets [] y = refl
length_targets (x ∷ xs) y = omega (arith, length-append xs (y ∷ []))

pub length_marks : (w : ℕ) (masks c : List ℕ) (y : ℕ) → length (marks_of w masks c y) ≡ length c
length_marks w masks c y = length-map (targets_of c y) (mark_into w masks) ∙ length_targets c y

mark_at : (w : ℕ) (masks c : List ℕ) (y i : ℕ) → i < length c
    → get_or (marks_of w masks c y) i 0 ≡ mark_into w masks (get_or (targets_of c y) i 0)
mark_at w masks c y i l = at_map (mark_into w masks) 0 0 (targets_of c y) i (omega (arith, length_targets c y))

-- the mask at an occurrence
pub mask_at : (g : Grammar) (p : Production) (o : ℕ) → o ≤ p.n → get_or (masks_of g p) o 0 ≡ (symbol g (symbol_at p o)).mask
mask_at g p o l = at_below (λ (i : ℕ). (symbol g (symbol_at p i)).mask) 0 (suc p.n) o (omega arith)

module _ (w : ℕ) (edges : List Edge) (graphs masks : List ℕ) (within : EdgesWithin w (length graphs) edges) (all : AllAllowed edges masks) where
  own_marked : (i j : ℕ) → OwnEdge w edges i j → edge_into w masks j ≡ true
  own_marked i j h =
      let t = h.edge.target in
      ap (edge_into w masks) h.to
      ∙ into_at w masks t.occurrence t.attribute (within h.edge h.given).1.attribute
      ∙ (target_decides t.occurrence _).passes (all h.edge h.given)

  module _ (up : KidsEndUp w masks graphs) where
    pair_marked : (i j : ℕ) → SubtreePair w 1 graphs i j → edge_into w masks j ≡ false
    pair_marked i j h =
        let q = h.pair in
        let z : bit q.b (get_or masks (suc h.k) 0) ≡ 0 = up h.k h.given q.a q.b q.a_lt q.b_lt q.there in
        ap (edge_into w masks) (q.to ∙ ap (λ (o : ℕ). w * o + q.b) (one-add h.k))
        ∙ into_at w masks (suc h.k) q.b q.b_lt
        ∙ not_so (target_decides (suc h.k) (bit q.b (get_or masks (suc h.k) 0))) (λ o. omega (arith, o))

    -- no link is both
    pub never_both : (i j : ℕ) → OwnEdge w edges i j → SubtreePair w 1 graphs i j → ⊥
    never_both i j e q = true≢false (sym (own_marked i j e) ∙ pair_marked i j q)

    -- each link is what its mark says
    pub marked : (i j : ℕ) → Linked (compound w edges graphs) i j → Marked w edges graphs (mark_into w masks j) i j
    marked i j h = go ((compound_leads w edges graphs within i j).0 h)
      where
        one : OwnEdge w edges i j → mark_into w masks j ≡ 1
        one e = ap mark_of (own_marked i j e)

        zero : SubtreePair w 1 graphs i j → mark_into w masks j ≡ 0
        zero q = ap mark_of (pair_marked i j q)

        go : CompoundEdge w edges graphs i j → Marked w edges graphs (mark_into w masks j) i j
        go (inl e) = record { edge = (λ m. e, one); pair = (λ m. absurd (omega (arith, one e)), zero) }
        go (inr q) = record { edge = (λ m. absurd (omega (arith, zero q)), one); pair = (λ m. q, zero) }

    -- so is each link of a path
    pub links_marked : (x y : ℕ) (c : List ℕ) → IsPath (compound w edges graphs) x y c → AllMarked w edges graphs c y (marks_of w masks c y)
    links_marked x y c h i l =
        rw (mark_at w masks c y i l) (marked (get_or c i 0) (get_or (targets_of c y) i 0) (path_at (compound w edges graphs) x y c h i l))

  -- ---- a path to an attribute of the left symbol ends up there, whatever the subtrees' graphs are: its last link is an edge

  last_up : (z b : ℕ) → b < w → CompoundEdge w edges graphs z b → bit b (get_or masks 0 0) ≡ 0
  last_up z b l (inl e) =
      let t = e.edge.target in
      let s = one_pair w 0 b t.occurrence t.attribute l (within e.edge e.given).1.attribute (omega (arith, e.to)) in
      subst₂ (λ (o a : ℕ). Allowed o (bit a (get_or masks o 0))) (sym s.0) (sym s.1) (all e.edge e.given)
  last_up z b l (inr q) =
      let k = q.pair in
      let s = one_pair w 0 b (1 + q.k) k.b l k.b_lt (omega (arith, k.to)) in
      absurd (omega (arith, s.0))

  pub path_ends_up : (a b : ℕ) → b < w → Plus (CompoundEdge w edges graphs) a b → bit b (get_or masks 0 0) ≡ 0
  path_ends_up a b l p =
      let r = last_edge p in
      last_up r.0 b l r.1

  -- so does the graph of the root
  pub root_ends_up : EndsUp w (get_or masks 0 0) (root_graph w (closure (compound w edges graphs)))
  root_ends_up a b la lb h = path_ends_up a b lb ((compound_root w edges graphs within a b la lb).0 h)
