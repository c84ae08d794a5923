-- A bit of the closed rows is a path of one or more edges, and no less; so the circle test finds a circle exactly if there is one.
-- For any number of nodes. Assumes nothing.
use mathlib.Core.Path.{◌≡◌, refl, sym, ap, ap₂, ◌∙◌}
use mathlib.Core.Bool.{Bool, true, false≢true}
use mathlib.Core.List.{List, map}
use mathlib.Core.Logic.{◌↔◌}
use Prim.Native.Nat.{ℕ, zero, suc, ◌<◌, min, max}
use native.Mathlib.Decide.{dec_lt, ℕ_discrete}
use native.Mathlib.Omega.{arith}
use lib.ListN.{length, get_or, get_or-map, get_or-eq_default}
use Rattle.numbers.specs.Number.{bit}
use Rattle.numbers.specs.Paths.{Plus, Circle, Leads}
use Rattle.numbers.specs.Ways.{ways}
use Rattle.numbers.proofs.Bits.{bit_lt, bit_zero, bit_of_or}
use Rattle.numbers.proofs.Ways.{ways_iff}
use Rattle.graph.specs.Rows.{bits, join, through, step, steps_to, closure, or_else, circle_to, has_circle}

-- ---- the steps are the ways

pub join_bit : (b j via row : ℕ) → bit j (join b via row) ≡ max (bit j row) (min b (bit j via))
join_bit zero j via row = omega arith
join_bit (suc b) j via row = bit_of_or j row via ∙ omega (arith, bit_lt j via)

step_at : (k : ℕ) (rows : List ℕ) (i : ℕ) → get_or (step k rows) i 0 ≡ through k (get_or rows k 0) (get_or rows i 0)
unfolding step through
step_at k rows i =
    let f = through k (get_or rows k 0) in
    ap (get_or (map f rows) i) (sym (ap (λ (b : ℕ). join b (get_or rows k 0) 0) (bit_zero k))) ∙ get_or-map f rows i 0

pub step_bits : (k : ℕ) (rows : List ℕ) (i j : ℕ)
    → bits (step k rows) i j ≡ max (bits rows i j) (min (bits rows i k) (bits rows k j))
unfolding through
step_bits k rows i j =
    ap (bit j) (step_at k rows i)
    ∙ join_bit (bits rows i k) j (get_or rows k 0) (get_or rows i 0)

pub steps_ways : (k : ℕ) (rows : List ℕ) (i j : ℕ) → bits (steps_to k rows) i j ≡ ways k (bits rows) i j
unfolding steps_to ways
steps_ways zero rows i j = refl
steps_ways (suc k) rows i j =
    step_bits k (steps_to k rows) i j
    ∙ ap₂ max (steps_ways k rows i j) (ap₂ min (steps_ways k rows i k) (steps_ways k rows k j))

-- ---- a bit of the closed rows

pub bits_lt : (rows : List ℕ) (i j : ℕ) → bits rows i j < 2
bits_lt rows i j = bit_lt j (get_or rows i 0)

-- a node that has an edge has a row
pub leads_lt : (rows : List ℕ) (i j : ℕ) → Leads (bits rows) i j → i < length rows
leads_lt rows i j h = go (dec_lt i (length rows))
  where
    go : Dec (i < length rows) → i < length rows
    go (yes l) = l
    go (no f) =
        absurd (omega (arith, sym (bit_zero j) ∙ ap (bit j) (sym (get_or-eq_default rows 0 {n = i} (omega arith))) ∙ h))

pub closure_path : (rows : List ℕ) (i j : ℕ) → (bits (closure rows) i j ≡ 1) ↔ Plus (Leads (bits rows)) i j
unfolding closure
closure_path rows i j =
    let e = steps_ways (length rows) rows i j in
    let w = ways_iff (bits rows) (bits_lt rows) (length rows) (leads_lt rows) i j in
    (λ h. w.0 (sym e ∙ h), λ p. e ∙ w.1 p)

-- ---- the circle test

else_true : (b : ℕ) (r : Bool) → r ≡ true → or_else b r ≡ true
else_true zero r h = h
else_true (suc b) r h = refl

circle_found_lem : (n : ℕ) (rows : List ℕ) (i : ℕ) → i < n → Leads (bits rows) i i → circle_to n rows ≡ true
unfolding circle_to
circle_found_lem zero rows i l h = absurd (omega arith)
circle_found_lem (suc n) rows i l h = go (ℕ_discrete i n) (λ k. circle_found_lem n rows i k h)
  where
    go : Dec (i ≡ n) → (i < n → circle_to n rows ≡ true) → or_else (bits rows n n) (circle_to n rows) ≡ true
    go (yes e) r = ap (λ (b : ℕ). or_else b (circle_to n rows)) (rw e at h)
    go (no f) r = else_true (bits rows n n) (circle_to n rows) (r (omega arith))

circle_there : (n : ℕ) (rows : List ℕ) → circle_to n rows ≡ true → (i : ℕ) × Leads (bits rows) i i
unfolding circle_to
circle_there zero rows h = absurd (false≢true h)
circle_there (suc n) rows h = go (bits rows n n) refl (λ t. circle_there n rows t)
  where
    go : (b : ℕ) → bits rows n n ≡ b → (circle_to n rows ≡ true → (i : ℕ) × Leads (bits rows) i i) → (i : ℕ) × Leads (bits rows) i i
    go zero e r = r (ap (λ (b : ℕ). or_else b (circle_to n rows)) (sym e) ∙ h)
    go (suc b) e r = (n, omega (arith, bits_lt rows n n))

-- some node has an edge to itself
pub circle_self : (rows : List ℕ) → (has_circle rows ≡ true) ↔ ((i : ℕ) × Leads (bits rows) i i)
circle_self rows = (
  circle_there (length rows) rows,
  λ p. circle_found_lem (length rows) rows p.0 (leads_lt rows p.0 p.0 p.1) p.1,
)

-- of the closed rows: some node has a path to itself
pub circle_path : (rows : List ℕ) → (has_circle (closure rows) ≡ true) ↔ Circle (Leads (bits rows))
circle_path rows =
    let s = circle_self (closure rows) in (
      λ h.
          let p = s.0 h in
          (p.0, (closure_path rows p.0 p.0).0 p.1),
      λ p. s.1 (p.0, (closure_path rows p.0 p.0).1 p.1),
    )
