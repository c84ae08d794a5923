-- A table with more rows than there are nodes: its first rows are the compound graph's, and what is read off its closure is read off theirs.
-- Over the number w of attributes and any number of rows. Assumes nothing.
use mathlib.Core.Path.{◌≡◌, refl, sym, ap, ap₂, ◌∙◌}
use mathlib.Core.List.Memᴰ
use mathlib.Core.List.{List, [], ◌∷◌, ◌++◌, append-nil}
use Prim.Native.Nat.{ℕ, zero, suc, ◌+◌, ◌*◌, ◌%◌, ◌^◌, ◌≤◌, ◌<◌}
use native.Mathlib.Nat.{mul-suc, mul-le-mul_left}
use native.Mathlib.Decide.{dec_le}
use native.Mathlib.Numerals.{one-add}
use native.Mathlib.Omega.{arith}
use lib.Bits.{bit_or}
use lib.ListN.{length, get_or, set, take, drop, replicate, length-take, length-replicate, drop_of_length-le}
use lib.Seq.{get_or-take, take-set-lt, take_at, take_all, length-take-le}
use Rattle.grammar.specs.declared.Edge.{Edge}
use Rattle.graph.specs.Rows.{node, join_at, link, own, pairs_from, placed_to, placed, placed_from, compound, closure, root_to, root_graph}
use Rattle.graph.specs.Parts.{closed_first}
use Rattle.graph.specs.Compound.{EdgesWithin}
use Rattle.graph.proofs.Turns.{link_there, length_link, length_closure}
use Rattle.graph.proofs.Compound.{NodesBelow, nodes_below}

-- ---- the first m rows, where nothing is written past them

take_join : (m i x : ℕ) (rows : List ℕ) → i < m → take m (join_at i x rows) ≡ join_at i x (take m rows)
take_join m i x rows l =
    take-set-lt m rows i (bit_or (get_or rows i 0) x) l
    ∙ ap (λ (y : ℕ). set (take m rows) i (bit_or y x)) (sym (get_or-take m rows i 0 l))

take_link : (m i j : ℕ) (rows : List ℕ) → m ≤ length rows → i < m → j < m → take m (link i j rows) ≡ link i j (take m rows)
take_link m i j rows l li lj =
    ap (take m) (link_there i j rows (omega arith))
    ∙ take_join m i (2 ^ j) rows li
    ∙ sym (link_there i j (take m rows) (omega (arith, length-take-le m rows l)))

pub take_own : (w m : ℕ) (es : List Edge) (rows : List ℕ) → m ≤ length rows → NodesBelow w m es
    → take m (own w es rows) ≡ own w es (take m rows)
unfolding own
take_own w m [] rows l below = refl
take_own w m (e ∷ es) rows l below =
    let s = node w e.source in
    let t = node w e.target in
    let here = below e (Memᴰ.head refl) in
    take_own w m es (link s t rows) (omega (arith, length_link s t rows)) (λ f d. below f (Memᴰ.tail d))
    ∙ ap (own w es) (take_link m s t rows l here.0 here.1)

pub take_placed : (w o g m a : ℕ) (rows : List ℕ) → w * o + a ≤ m → take m (placed_to w o g a rows) ≡ placed_to w o g a (take m rows)
unfolding placed_to
take_placed w o g m zero rows l = refl
take_placed w o g m (suc a) rows l =
    take_join m (w * o + a) (pairs_from w a g * 2 ^ (w * o)) (placed_to w o g a rows) (omega arith)
    ∙ ap (join_at (w * o + a) (pairs_from w a g * 2 ^ (w * o))) (take_placed w o g m a rows (omega arith))

pub take_placed_from : (w o m : ℕ) (gs rows : List ℕ) → w * (o + length gs) ≤ m
    → take m (placed_from w o gs rows) ≡ placed_from w o gs (take m rows)
unfolding placed_from
take_placed_from w o m [] rows l = refl
take_placed_from w o m (g ∷ gs) rows l =
    let here : suc o ≤ o + suc (length gs) = omega arith in
    let e : suc o + length gs ≡ o + suc (length gs) = omega arith in
    take_placed_from w (suc o) m gs (placed w o g rows) (omega (arith, ap (λ (n : ℕ). w * n) e))
    ∙ ap (placed_from w (suc o) gs) (take_placed w o g m w rows (omega (arith, mul-suc w o, mul-le-mul_left w here)))

take_replicate : {A : Type 0} (x : A) (m k : ℕ) → m ≤ k → take m (replicate k x) ≡ replicate m x
take_replicate x zero k l = refl
take_replicate x (suc m) zero l = absurd (omega arith)
take_replicate x (suc m) (suc k) l = ap (λ xs. x ∷ xs) (take_replicate x m k (omega arith))

-- ---- the closure of the first m rows

pub take_closed : (m : ℕ) (rows : List ℕ) → take m (closed_first m rows) ≡ closure (take m rows)
take_closed m rows = go (dec_le m (length rows))
  where
    go : Dec (m ≤ length rows) → take m (closed_first m rows) ≡ closure (take m rows)
    go (yes l) = take_at (closure (take m rows)) (drop m rows) m (length_closure (take m rows) ∙ length-take-le m rows l)
    go (no f) =
        ap (λ (d : List ℕ). take m (closure (take m rows) ++ d)) (drop_of_length-le rows {i = m} (omega arith))
        ∙ ap (take m) (append-nil (closure (take m rows)))
        ∙ take_all m (closure (take m rows)) (omega (arith, length_closure (take m rows), length-take m rows))

root_part : (w m a : ℕ) (rows : List ℕ) → a ≤ m → root_to w a (take m rows) ≡ root_to w a rows
unfolding root_to
root_part w m zero rows l = refl
root_part w m (suc a) rows l =
    ap₂ (λ (g x : ℕ). bit_or g (x % 2 ^ w * 2 ^ (w * a))) (root_part w m a rows (omega arith)) (get_or-take m rows a 0 l)

pub root_closed : (w m : ℕ) (rows : List ℕ) → w ≤ m → root_graph w (closed_first m rows) ≡ root_graph w (closure (take m rows))
root_closed w m rows l = sym (root_part w m w (closed_first m rows) l) ∙ ap (root_graph w) (take_closed m rows)

-- ---- the compound graph in a table of k rows: what the code has, and what the definition says

pub table_compound : (w k : ℕ) (edges : List Edge) (graphs : List ℕ) → EdgesWithin w (length graphs) edges → w * suc (length graphs) ≤ k
    → take (w * suc (length graphs)) (placed_from w 1 graphs (own w edges (replicate k 0))) ≡ compound w edges graphs
unfolding compound
table_compound w k edges graphs within room =
    let n = w * suc (length graphs) in
    let e : w * (1 + length graphs) ≡ n = ap (λ (m : ℕ). w * m) (one-add (length graphs)) in
    let bare : List ℕ = replicate k 0 in
    take_placed_from w 1 n graphs (own w edges bare) (omega arith)
    ∙ ap (placed_from w 1 graphs)
    (take_own w n edges bare (omega (arith, length-replicate {A = ℕ} k 0)) (nodes_below w (length graphs) edges within)
    ∙ ap (own w edges) (take_replicate 0 n k room))
