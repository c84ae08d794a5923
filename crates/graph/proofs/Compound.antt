-- Which edges a compound graph has: the edges given, and the pairs of each subtree's graph at its occurrence. Over the number w of attributes.
-- Assumes nothing.
use mathlib.Core.Path.{◌≡◌, refl, sym, ap, ◌∙◌}
use mathlib.Core.Bool.{true}
use mathlib.Core.List.Memᴰ
use mathlib.Core.List.{List, [], ◌∷◌, Memᴰ}
use mathlib.Core.Logic.{◌⊎◌, inl, inr, ⊎_elim, ◌↔◌}
use Prim.Native.Nat.{ℕ, zero, suc, ◌+◌, ◌*◌, ◌/◌, ◌^◌, ◌≤◌, ◌<◌}
use native.Mathlib.Nat.{add-zero, mul-suc, mul-le-mul_left}
use native.Mathlib.Decide.{ℕ_discrete}
use native.Mathlib.Numerals.{one-add}
use native.Mathlib.Omega.{arith}
use lib.Bits.{bit_or}
use lib.ListN.{length, get_or, replicate, length-set, length-replicate}
use lib.Seq.{get_or-set_same, get_or-set_other}
use Rattle.numbers.specs.Number.{bit}
use Rattle.numbers.specs.Paths.{Plus, Circle, Leads}
use Rattle.numbers.proofs.Bits.{bit_lt, bit_zero, bit_of_or, bit_down, bit_power, one_of, block_bit, block_made}
use Rattle.numbers.proofs.Ways.{carried}
use Rattle.grammar.specs.declared.Node.{Node}
use Rattle.grammar.specs.declared.Edge.{Edge}
use Rattle.graph.specs.Rows.{node, bits, join_at, link, own, pairs_from, placed_to, placed, placed_from, compound, closure, has_circle, root_graph}
use Rattle.graph.specs.Compound.{Within, EdgesWithin, OwnEdge, PairTo, Pair, SubtreePair, CompoundEdge}
use Rattle.graph.proofs.Turns.{link_there, length_link}
use Rattle.graph.proofs.Closure.{circle_path}
use Rattle.graph.proofs.Root.{root_path}

-- ---- x joined into row p

join_leads : (p x : ℕ) (rows : List ℕ) → p < length rows
    → (i j : ℕ) → Leads (bits (join_at p x rows)) i j ↔ (Leads (bits rows) i j ⊎ ((i ≡ p) × (bit j x ≡ 1)))
join_leads p x rows l i j = go (ℕ_discrete i p)
  where
    go : Dec (i ≡ p) → Leads (bits (join_at p x rows)) i j ↔ (Leads (bits rows) i j ⊎ ((i ≡ p) × (bit j x ≡ 1)))
    go (yes e) =
        let new = bit_or (get_or rows p 0) x in
        let b = bit_of_or j (get_or rows i 0) x in
        let s : bits (join_at p x rows) i j ≡ bit j (bit_or (get_or rows i 0) x) = rw (e, get_or-set_same rows p new 0 l) in (
          λ h. ⊎_elim inl (λ q. inr (e, q)) (one_of (bits rows i j) (bit j x) (sym b ∙ sym s ∙ h)),
          ⊎_elim (λ h. omega (arith, s, b, bit_lt j x)) (λ h. omega (arith, s, b, bit_lt j (get_or rows i 0), h.1)),
        )
    go (no f) =
        let new = bit_or (get_or rows p 0) x in
        let s : bits (join_at p x rows) i j ≡ bits rows i j = ap (bit j) (get_or-set_other rows p i new 0 f) in
        (λ h. inl (sym s ∙ h), ⊎_elim (λ h. s ∙ h) (λ h. absurd (f h.0)))

-- ---- the edges given

pub link_leads : (s t : ℕ) (rows : List ℕ) → s < length rows → t < length rows
    → (i j : ℕ) → Leads (bits (link s t rows)) i j ↔ (Leads (bits rows) i j ⊎ ((i ≡ s) × (j ≡ t)))
link_leads s t rows ls lt i j =
    let e = link_there s t rows lt in
    let k = join_leads s (2 ^ t) rows ls i j in
    let p = bit_power t j in (
      λ h. ⊎_elim inl (λ q. inr (q.0, p.0 q.1)) (k.0 (rw e at h)),
      λ h. rw e (k.1 (⊎_elim inl (λ q. inr (q.0, p.1 q.1)) h)),
    )

-- the edges' nodes are below n
abbrev pub NodesBelow : ℕ → ℕ → List Edge → Type 0
NodesBelow w n es = (e : Edge) → Memᴰ e es → (node w e.source < n) × (node w e.target < n)

pub node_lt : (w n : ℕ) (x : Node) → Within w n x → node w x < w * suc n
node_lt w n x h = omega (arith, h.attribute, mul-suc w n, mul-le-mul_left w h.occurrence)

pub nodes_below : (w n : ℕ) (es : List Edge) → EdgesWithin w n es → NodesBelow w (w * suc n) es
nodes_below w n es h e m = (node_lt w n e.source (h e m).0, node_lt w n e.target (h e m).1)

pub length_own : (w : ℕ) (es : List Edge) (rows : List ℕ) → length (own w es rows) ≡ length rows
unfolding own
length_own w [] rows = refl
length_own w (e ∷ es) rows = length_own w es (link (node w e.source) (node w e.target) rows) ∙ simp length_link

pub own_leads : (w : ℕ) (es : List Edge) (rows : List ℕ) → NodesBelow w (length rows) es
    → (i j : ℕ) → Leads (bits (own w es rows)) i j ↔ (Leads (bits rows) i j ⊎ OwnEdge w es i j)
unfolding own
own_leads w [] rows below i j = (inl, ⊎_elim (λ h. h) (λ h. absurd (Memᴰ.not-nil h.given)))
own_leads w (e ∷ es) rows below i j =
    let s = node w e.source in
    let t = node w e.target in
    let here = below e (Memᴰ.head refl) in
    let first = link_leads s t rows here.0 here.1 i j in
    let rest = own_leads w es (link s t rows) (λ f m. rw (length_link s t rows) (below f (Memᴰ.tail m))) i j in (
      λ h.
          ⊎_elim
          (λ q. ⊎_elim inl (λ r. inr (record { edge = e; given = Memᴰ.head refl; from = r.0; to = r.1 })) (first.0 q))
          (λ q. inr (record { edge = q.edge; given = Memᴰ.tail q.given; from = q.from; to = q.to }))
          (rest.0 h),
      ⊎_elim (λ h. rest.1 (inl (first.1 (inl h))))
          (λ q.
          ⊎_elim
          (λ r.
          rest.1
          (inl
          (first.1
          (inr (q.from ∙ ap (λ (f : Edge). node w f.source) r, q.to ∙ ap (λ (f : Edge). node w f.target) r)))))
          (λ m. rest.1 (inr (record { edge = q.edge; given = m; from = q.from; to = q.to })))
          (Memᴰ.cases_cons q.given)),
    )

-- ---- a subtree's pairs

pub length_placed : (w o g c : ℕ) (rows : List ℕ) → length (placed_to w o g c rows) ≡ length rows
unfolding placed_to
length_placed w o g zero rows = refl
length_placed w o g (suc c) rows = length-set (placed_to w o g c rows) (w * o + c) _ ∙ length_placed w o g c rows

-- a pair under another bound
bounded : {w c o g i j : ℕ} (p : PairTo w c o g i j) (d : ℕ) → p.a < d → PairTo w d o g i j
bounded p d l = record { a = p.a; b = p.b; a_lt = l; b_lt = p.b_lt; from = p.from; to = p.to; there = p.there }

-- the pairs that begin in attribute c, as the bits of a row
module _ (w c o g i j : ℕ) where
  abbrev Row : Type 0
  Row = (i ≡ w * o + c) × (bit j (pairs_from w c g * 2 ^ (w * o)) ≡ 1)

  pair_of_row : Row → PairTo w (suc c) o g i j
  pair_of_row q =
      let r = block_bit w (w * o) (g / 2 ^ (w * c)) j q.1 in
      record { a = c; b = r.0; a_lt = omega arith; b_lt = r.1; from = q.0; to = r.2; there = sym (bit_down (w * c) r.0 g) ∙ r.3 }

  row_of_pair : (q : PairTo w (suc c) o g i j) → q.a ≡ c → Row
  row_of_pair q e =
      let there : bit q.b (g / 2 ^ (w * c)) ≡ 1 = bit_down (w * c) q.b g ∙ ap (λ (a : ℕ). bit (w * a + q.b) g) (sym e) ∙ q.there in (
        q.from ∙ ap (λ (a : ℕ). w * o + a) e,
        rw q.to (block_made w (w * o) (g / 2 ^ (w * c)) q.b q.b_lt there),
      )

  -- a pair begins in attribute c, or before
  last_or_before : PairTo w (suc c) o g i j → PairTo w c o g i j ⊎ Row
  last_or_before q = go (ℕ_discrete q.a c)
    where
      go : Dec (q.a ≡ c) → PairTo w c o g i j ⊎ Row
      go (yes e) = inr (row_of_pair q e)
      go (no f) = inl (bounded q c (omega (arith, q.a_lt)))

pub placed_leads : (w o g c : ℕ) (rows : List ℕ) → w * o + c ≤ length rows
    → (i j : ℕ) → Leads (bits (placed_to w o g c rows)) i j ↔ (Leads (bits rows) i j ⊎ PairTo w c o g i j)
unfolding placed_to
placed_leads w o g zero rows l i j = (inl, ⊎_elim (λ h. h) (λ h. absurd (omega (arith, h.a_lt))))
placed_leads w o g (suc c) rows l i j =
    let before = placed_to w o g c rows in
    let last = join_leads (w * o + c) (pairs_from w c g * 2 ^ (w * o)) before (omega (arith, length_placed w o g c rows)) i j in
    let rest = placed_leads w o g c rows (omega arith) i j in (
      λ h.
          ⊎_elim (λ q. ⊎_elim inl (λ r. inr (bounded r (suc c) (omega (arith, r.a_lt)))) (rest.0 q))
          (λ q. inr (pair_of_row w c o g i j q))
          (last.0 h),
      ⊎_elim (λ h. last.1 (inl (rest.1 (inl h))))
          (λ q. last.1 (⊎_elim (λ r. inl (rest.1 (inr r))) inr (last_or_before w c o g i j q))),
    )

-- ---- all subtrees' pairs

-- the subtrees are the first, and those after it from the next occurrence on
next : (o k : ℕ) → suc o + k ≡ o + suc k
next o k = omega arith

module _ (w o g : ℕ) (gs : List ℕ) (i j : ℕ) where
  of_first : Pair w o g i j → SubtreePair w o (g ∷ gs) i j
  of_first p = record { k = 0; given = omega arith; pair = rw (add-zero o) p }

  of_rest : SubtreePair w (suc o) gs i j → SubtreePair w o (g ∷ gs) i j
  of_rest q = record { k = suc q.k; given = omega (arith, q.given); pair = rw (next o q.k) at q.pair }

  first_or_rest : SubtreePair w o (g ∷ gs) i j → Pair w o g i j ⊎ SubtreePair w (suc o) gs i j
  first_or_rest q = go q.k q.given q.pair
    where
      go : (k : ℕ) → k < suc (length gs) → Pair w (o + k) (get_or (g ∷ gs) k 0) i j → Pair w o g i j ⊎ SubtreePair w (suc o) gs i j
      go zero h p = inl (rw (add-zero o) at p)
      go (suc k) h p = inr (record { k = k; given = omega arith; pair = rw (next o k) p })

pub placed_from_leads : (w o : ℕ) (gs rows : List ℕ) → w * (o + length gs) ≤ length rows
    → (i j : ℕ) → Leads (bits (placed_from w o gs rows)) i j ↔ (Leads (bits rows) i j ⊎ SubtreePair w o gs i j)
unfolding placed_from
placed_from_leads w o [] rows l i j = (inl, ⊎_elim (λ h. h) (λ h. absurd (omega (arith, h.given))))
placed_from_leads w o (g ∷ gs) rows l i j =
    let here : suc o ≤ o + suc (length gs) = omega arith in
    let e = ap (λ (n : ℕ). w * n) (next o (length gs)) in
    let first = placed_leads w o g w rows (omega (arith, mul-suc w o, mul-le-mul_left w here)) i j in
    let rest = placed_from_leads w (suc o) gs (placed w o g rows) (omega (arith, length_placed w o g w rows, e)) i j in (
      λ h.
          ⊎_elim (λ q. ⊎_elim inl (λ r. inr (of_first w o g gs i j r)) (first.0 q)) (λ q. inr (of_rest w o g gs i j q))
          (rest.0 h),
      ⊎_elim (λ h. rest.1 (inl (first.1 (inl h))))
          (λ q. rest.1 (⊎_elim (λ r. inl (first.1 (inr r))) inr (first_or_rest w o g gs i j q))),
    )

-- ---- the compound graph

length_placed_from : (w o : ℕ) (gs rows : List ℕ) → length (placed_from w o gs rows) ≡ length rows
unfolding placed_from
length_placed_from w o [] rows = refl
length_placed_from w o (g ∷ gs) rows = length_placed_from w (suc o) gs (placed w o g rows) ∙ length_placed w o g w rows

pub length_compound : (w : ℕ) (edges : List Edge) (graphs : List ℕ) → length (compound w edges graphs) ≡ w * suc (length graphs)
unfolding compound
length_compound w edges graphs =
    let n = w * suc (length graphs) in
    length_placed_from w 1 graphs (own w edges (replicate n 0)) ∙ length_own w edges (replicate n 0) ∙ length-replicate n 0

no_rows : (n i j : ℕ) → Leads (bits (replicate n 0)) i j → ⊥
no_rows zero i j h = omega (arith, bit_zero j)
no_rows (suc n) zero j h = omega (arith, bit_zero j)
no_rows (suc n) (suc i) j h = no_rows n i j h

module _ (w : ℕ) (edges : List Edge) (graphs : List ℕ) (within : EdgesWithin w (length graphs) edges) where
  pub compound_leads : (i j : ℕ) → Leads (bits (compound w edges graphs)) i j ↔ CompoundEdge w edges graphs i j
  unfolding compound
  compound_leads i j =
      let n = w * suc (length graphs) in
      let bare : List ℕ = replicate n 0 in
      let size : length bare ≡ n = length-replicate n 0 in
      let e : w * (1 + length graphs) ≡ n = ap (λ (m : ℕ). w * m) (one-add (length graphs)) in
      let owns = own_leads w edges bare (rw size (nodes_below w (length graphs) edges within)) i j in
      let all = placed_from_leads w 1 graphs (own w edges bare) (omega (arith, length_own w edges bare)) i j in (
        λ h. ⊎_elim (λ q. ⊎_elim (λ r. absurd (no_rows n i j r)) inl (owns.0 q)) inr (all.0 h),
        ⊎_elim (λ q. all.1 (inl (owns.1 (inr q)))) (λ q. all.1 (inr q)),
      )

  pub compound_paths : (i j : ℕ) → Plus (Leads (bits (compound w edges graphs))) i j ↔ Plus (CompoundEdge w edges graphs) i j
  compound_paths i j = (carried (λ x y. (compound_leads x y).0), carried (λ x y. (compound_leads x y).1))

  -- its closure finds a circle exactly if it has one
  pub compound_circle : (has_circle (closure (compound w edges graphs)) ≡ true) ↔ Circle (CompoundEdge w edges graphs)
  compound_circle =
      let c = circle_path (compound w edges graphs) in (
        λ h.
            let p = c.0 h in
            (p.0, (compound_paths p.0 p.0).0 p.1),
        λ p. c.1 (p.0, (compound_paths p.0 p.0).1 p.1),
      )

  -- and its root's graph has the pair (a, b) exactly if a path leads from a to b
  pub compound_root : (a b : ℕ) → a < w → b < w
      → (bit (w * a + b) (root_graph w (closure (compound w edges graphs))) ≡ 1) ↔ Plus (CompoundEdge w edges graphs) a b
  compound_root a b la lb =
      let r = root_path w (compound w edges graphs) a b la lb in
      let p = compound_paths a b in
      (λ h. p.0 (r.0 h), λ q. r.1 (p.1 q))
