-- What the code's loops make, a turn at a time. Over any number of nodes and of attributes. Assumes nothing.
use mathlib.Core.Path.{◌≡◌, refl, sym, ap, ap₂, ◌∙◌}
use mathlib.Core.Bool.{Bool, true, false, cond}
use mathlib.Core.List.{List, [], ◌∷◌, ◌++◌, map}
use mathlib.Core.Logic.{⊎_elim}
use Prim.Native.Nat.{ℕ, zero, suc, ◌+◌, ◌*◌, ◌/◌, ◌%◌, ◌^◌, ◌-◌, ◌≤◌, ◌<◌, min, max}
use native.Mathlib.Nat.{max-zero, eq-or-lt_of_le}
use native.Mathlib.Decide.{dec_lt}
use native.Mathlib.Numerals.{add-one}
use native.Mathlib.Omega.{arith}
use lib.Bits.{bit_or, or_zero_r}
use lib.Dec.{ltb, eqb}
use lib.ListN.{length, get_or, set, take, drop, length-map, length-set, length-take, get_or-eq_default}
use lib.Seq.{set_out, take_at, drop_at, get_or-take}
use borrow.Author.Tests.{lt-ltb, le-ltb, eq-eqb}
use Rattle.numbers.specs.Number.{bit}
use Rattle.numbers.specs.Lists.{up_from}
use Rattle.numbers.proofs.Bits.{bit_lt, bit_zero, bit_of_or, or_low}
use Rattle.numbers.proofs.Parts.{take_clipped, drop_clipped}
use Rattle.grammar.specs.declared.Edge.{Edge}
use Rattle.graph.specs.Rows.{node, bits, join_at, link, own, pairs_from, placed_to, join, through, step, steps_to, closure, or_else, circle_to, root_to}
use Rattle.graph.specs.Parts.{map_first, closed_first, targets_to}
use Rattle.graph.proofs.Closure.{step_bits}

-- ---- the rows of the edges

pub link_there : (i j : ℕ) (rows : List ℕ) → j < length rows → link i j rows ≡ join_at i (2 ^ j) rows
unfolding link
link_there i j rows l = rw (lt-ltb j (length rows) l)

pub link_no_target : (i j : ℕ) (rows : List ℕ) → length rows ≤ j → link i j rows ≡ rows
unfolding link
link_no_target i j rows l = rw (le-ltb j (length rows) l)

pub link_no_source : (i j : ℕ) (rows : List ℕ) → length rows ≤ i → link i j rows ≡ rows
unfolding link
link_no_source i j rows l = rw (set_out rows i (bit_or (get_or rows i 0) (2 ^ j)) l) (either (ltb j (length rows)))
  where
    either : (b : Bool) → cond b rows rows ≡ rows
    either true = refl
    either false = refl

pub length_link : (i j : ℕ) (rows : List ℕ) → length (link i j rows) ≡ length rows
unfolding link
length_link i j rows = go (ltb j (length rows))
  where
    go : (b : Bool) → length (cond b (join_at i (2 ^ j) rows) rows) ≡ length rows
    go true = length-set rows i _
    go false = refl

-- the edges f e to f (n - 1), added to the rows
abbrev pub own_from : ℕ → (ℕ → Edge) → ℕ → ℕ → List ℕ → List ℕ
own_from w f n e rows = own w (map f (up_from e (n - e))) rows

pub own_more : (w : ℕ) (f : ℕ → Edge) (n e : ℕ) (rows : List ℕ) → e < n
    → own_from w f n (e + 1) (link (node w (f e).source) (node w (f e).target) rows) ≡ own_from w f n e rows
unfolding own up_from
own_more w f n e rows l =
    let d : n - e ≡ suc (n - (e + 1)) = omega arith in
    rw (d, add-one)

pub own_done : (w : ℕ) (f : ℕ → Edge) (n e : ℕ) (rows : List ℕ) → n ≤ e → own_from w f n e rows ≡ rows
unfolding own up_from
own_done w f n e rows l =
    let d : n - e ≡ 0 = omega arith in
    rw d

-- ---- a subtree's pairs, and the pairs of the root

pub placed_more : (w o g a : ℕ) (rows : List ℕ) {t : List ℕ} {x : ℕ}
    → t ≡ placed_to w o g a rows → x ≡ pairs_from w a g * 2 ^ (w * o) → join_at (w * o + a) x t ≡ placed_to w o g (a + 1) rows
unfolding placed_to
placed_more w o g a rows p q = rw add-one (ap₂ (join_at (w * o + a)) q p)

-- where there is no such occurrence
pub placed_out : (w o g a : ℕ) (rows : List ℕ) → length rows ≤ w * o → placed_to w o g a rows ≡ rows
unfolding placed_to
placed_out w o g zero rows l = refl
placed_out w o g (suc a) rows l =
    ap (join_at (w * o + a) (pairs_from w a g * 2 ^ (w * o))) (placed_out w o g a rows l) ∙ set_out rows (w * o + a) _ (omega arith)

pub root_more : (w a : ℕ) (rows : List ℕ) {g x : ℕ}
    → g ≡ root_to w a rows → x ≡ get_or rows a 0 % 2 ^ w * 2 ^ (w * a) → bit_or g x ≡ root_to w (a + 1) rows
unfolding root_to
root_more w a rows p q = rw add-one (ap₂ bit_or p q)

-- ---- rows that are changed where they stand, from the front

module _ (f : ℕ → ℕ) where
  row_ahead : (rows : List ℕ) (i : ℕ) → i < length rows → get_or (map_first i f rows) i 0 ≡ get_or rows i 0
  row_ahead [] i l = absurd (omega arith)
  row_ahead (x ∷ rows) zero l = refl
  row_ahead (x ∷ rows) (suc i) l = row_ahead rows i (omega arith)

  one_more : (rows : List ℕ) (i : ℕ) → i < length rows → set (map_first i f rows) i (f (get_or rows i 0)) ≡ map_first (suc i) f rows
  one_more [] i l = absurd (omega arith)
  one_more (x ∷ rows) zero l = refl
  one_more (x ∷ rows) (suc i) l = ap (λ (r : List ℕ). f x ∷ r) (one_more rows i (omega arith))

  pub map_more : (rows : List ℕ) (i : ℕ) {t : List ℕ} {v : ℕ}
      → t ≡ map_first i f rows → v ≡ f (get_or t i 0) → i < length rows → set t i v ≡ map_first (i + 1) f rows
  map_more rows i p q l =
      rw add-one
      (ap₂ (λ (t : List ℕ) (v : ℕ). set t i v) p (q ∙ ap f (ap (λ (t : List ℕ). get_or t i 0) p ∙ row_ahead rows i l))
      ∙ one_more rows i l)

-- ---- the steps

pub length_step : (k : ℕ) (rows : List ℕ) → length (step k rows) ≡ length rows
unfolding step
length_step k rows = length-map rows (through k (get_or rows k 0))

pub length_steps : (k : ℕ) (rows : List ℕ) → length (steps_to k rows) ≡ length rows
unfolding steps_to
length_steps zero rows = refl
length_steps (suc k) rows = length_step k (steps_to k rows) ∙ length_steps k rows

pub length_closure : (rows : List ℕ) → length (closure rows) ≡ length rows
unfolding closure
length_closure rows = length_steps (length rows) rows

-- no edge leads to node j
abbrev pub NoneTo : ℕ → List ℕ → Type 0
NoneTo j rows = (i : ℕ) → bits rows i j ≡ 0

through_none : (k via row : ℕ) → bit k row ≡ 0 → through k via row ≡ row
unfolding through
through_none k via row h = rw h

through_nothing : (k row : ℕ) → through k 0 row ≡ row
unfolding through
through_nothing k row = go (bit k row)
  where
    go : (b : ℕ) → join b 0 row ≡ row
    go zero = refl
    go (suc b) = or_zero_r row

map_same : (f : ℕ → ℕ) (rows : List ℕ) → ((i : ℕ) → f (get_or rows i 0) ≡ get_or rows i 0) → map f rows ≡ rows
map_same f [] h = refl
map_same f (x ∷ rows) h = ap₂ (λ (y : ℕ) (r : List ℕ). y ∷ r) (h 0) (map_same f rows (λ i. h (suc i)))

-- the step through a node that no edge leaves
step_nothing : (k : ℕ) (rows : List ℕ) → get_or rows k 0 ≡ 0 → step k rows ≡ rows
unfolding step
step_nothing k rows h = rw h (map_same (through k 0) rows (λ i. through_nothing k (get_or rows i 0)))

-- the step through a node to which no edge leads
step_none : (k : ℕ) (rows : List ℕ) → NoneTo k rows → step k rows ≡ rows
unfolding step
step_none k rows h = map_same (through k (get_or rows k 0)) rows (λ i. through_none k (get_or rows k 0) (get_or rows i 0) (h i))

none_stepped : (j k : ℕ) (rows : List ℕ) → NoneTo j rows → NoneTo j (step k rows)
none_stepped j k rows h i = omega (arith, step_bits k rows i j, h i, h k)

none_steps : (j k : ℕ) (rows : List ℕ) → NoneTo j rows → NoneTo j (steps_to k rows)
unfolding steps_to
none_steps j zero rows h = h
none_steps j (suc k) rows h = none_stepped j k (steps_to k rows) (none_steps j k rows h)

pub targets_more : (i all : ℕ) (rows : List ℕ) → all ≡ targets_to i rows → bit_or all (get_or rows i 0) ≡ targets_to (i + 1) rows
unfolding targets_to
targets_more i all rows e = rw add-one (ap (λ (x : ℕ). bit_or x (get_or rows i 0)) e)

targets_below : (j m : ℕ) (rows : List ℕ) → bit j (targets_to m rows) ≡ 0 → (i : ℕ) → i < m → bits rows i j ≡ 0
unfolding targets_to
targets_below j zero rows h i l = absurd (omega arith)
targets_below j (suc m) rows h i l =
    let e = sym (bit_of_or j (targets_to m rows) (get_or rows m 0)) ∙ h in
    ⊎_elim
    (λ (q : suc i ≡ suc m).
    let z : i ≡ m = omega (arith, q) in
    rw z (omega (arith, e)))
    (λ (q : suc i < suc m). targets_below j m rows (omega (arith, e)) i (omega (arith, q)))
    (eq-or-lt_of_le l)

pub targets_none : (j m : ℕ) (rows : List ℕ) → bit j (targets_to m rows) ≡ 0 → NoneTo j (take m rows)
targets_none j m rows h i = go (dec_lt i m)
  where
    go : Dec (i < m) → bits (take m rows) i j ≡ 0
    go (yes l) = ap (bit j) (get_or-take m rows i 0 l) ∙ targets_below j m rows h i l
    go (no f) = ap (bit j) (get_or-eq_default (take m rows) 0 {n = i} (omega (arith, length-take m rows))) ∙ bit_zero j

-- ---- the step through node k, where the first m rows of t are those after the steps before

module _ (k m : ℕ) (xs d : List ℕ) (n : length xs ≡ m) {t : List ℕ} (p : t ≡ steps_to k xs ++ d) where
  front : take m t ≡ steps_to k xs
  front = ap (take m) p ∙ take_at (steps_to k xs) d m (length_steps k xs ∙ n)

  rest : drop m t ≡ d
  rest = ap (drop m) p ∙ drop_at (steps_to k xs) d m (length_steps k xs ∙ n)

  row : k < m → get_or t k 0 ≡ get_or (steps_to k xs) k 0
  row l = sym (get_or-take m t k 0 l) ∙ ap (λ (r : List ℕ). get_or r k 0) front

  -- it is made
  pub step_made : k < m → {u : List ℕ} → u ≡ map_first m (through k (get_or t k 0)) t → u ≡ steps_to (k + 1) xs ++ d
  unfolding steps_to step
  step_made l e = e ∙ rw (add-one, row l, front, rest)

  -- it changes nothing
  same : step k (steps_to k xs) ≡ steps_to k xs → t ≡ steps_to (k + 1) xs ++ d
  unfolding steps_to
  same e = p ∙ rw (add-one, e)

  pub step_from_none : k < m → get_or t k 0 ≡ 0 → t ≡ steps_to (k + 1) xs ++ d
  step_from_none l h = same (step_nothing k (steps_to k xs) (sym (row l) ∙ h))

  pub step_to_none : NoneTo k xs → t ≡ steps_to (k + 1) xs ++ d
  step_to_none h = same (step_none k (steps_to k xs) (none_steps k k xs h))

-- after all steps
pub closed_clipped : (m n : ℕ) (rows : List ℕ) → n ≡ min m (length rows)
    → steps_to n (take n rows) ++ drop n rows ≡ closed_first m rows
unfolding closure
closed_clipped m n rows e =
    let d : n ≡ length (take m rows) = e ∙ sym (length-take m rows) in
    ap₂ (λ (a b : List ℕ). a ++ b) (ap₂ steps_to d (take_clipped m n rows e)) (drop_clipped m n rows e)

-- ---- the circle test

either : (s b : ℕ) (q : Bool) → s < 2 → b < 2 → eqb s 1 ≡ q → eqb (max s b) 1 ≡ or_else b q
either s zero q k l e = rw (max-zero s) e
either s (suc zero) q k l e = eq-eqb (max s 1) 1 (omega arith)
either s (suc (suc b)) q k l e = absurd (omega arith)

-- bit 0 of `seen` says whether a node below i has an edge to itself
pub circle_more : (i seen : ℕ) (rows : List ℕ) → eqb (seen % 2) 1 ≡ circle_to i rows
    → eqb (bit_or seen (get_or rows i 0 / 2 ^ i) % 2) 1 ≡ circle_to (i + 1) rows
unfolding circle_to
circle_more i seen rows e =
    rw (add-one, or_low seen (get_or rows i 0 / 2 ^ i))
    (either (seen % 2) (bits rows i i) (circle_to i rows) (omega arith) (bit_lt i (get_or rows i 0)) e)
