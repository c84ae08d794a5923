-- Rows that are filled up with zeros, and what is handed over of a path. Assumes nothing.
use mathlib.Core.Bool.{Bool, true, false, cond}
use mathlib.Core.List.{List, [], ◌∷◌, ◌++◌, map, map-append, append_assoc}
use mathlib.Core.Path.{◌≡◌, refl, sym, ap, ap₂, ◌∙◌}
use Prim.Native.Nat.{ℕ, zero, suc, ◌/◌, ◌%◌, ◌-◌, ◌<◌}
use native.Mathlib.Omega.{arith}
use lib.Dec.{ltb}
use lib.ListN.{length, get_or, set, take, replicate, length-append, length-map}
use lib.Seq.{set_at, take_at}
use Rattle.numbers.specs.Number.{bit}
use Rattle.numbers.specs.Lists.{both}
use Rattle.grammar.specs.Refusal.{allowed}
use Rattle.graph.specs.Parts.{most_nodes}
use Rattle.graph.specs.Search.{between, least_between, path_of}
use Rattle.graph.specs.Marks.{edge_into, mark_of, mark_into, targets_of, marks_of}
use Rattle.graph.specs.Trails.{trail, filled_up, trail_of, circle_trail, no_trail}
use Rattle.graph.proofs.Marks.{length_marks}

-- ---- filled up with zeros

pub none_filled : (n : ℕ) → filled_up n [] ≡ replicate n 0
none_filled n = let e : n - 0 ≡ n = omega arith in rw e

-- one more at the next place
pub filled_more : (n : ℕ) (xs : List ℕ) (i v : ℕ) → length xs ≡ i → i < n → set (filled_up n xs) i v ≡ filled_up n (xs ++ v ∷ [])
filled_more n xs i v e l =
    let s : n - length xs ≡ suc (n - length (xs ++ v ∷ [])) = omega (arith, length-append xs (v ∷ [])) in
    ap (λ (m : ℕ). set (xs ++ replicate m 0) i v) s
    ∙ set_at xs 0 (replicate (n - length (xs ++ v ∷ [])) 0) v i e
    ∙ sym (append_assoc xs (v ∷ []) (replicate (n - length (xs ++ v ∷ [])) 0))

-- the same of what a function makes
pub filled_map_more : (f : ℕ → ℕ) (n : ℕ) (xs : List ℕ) (i u : ℕ) {t : List ℕ} {v : ℕ}
    → t ≡ filled_up n (map f xs) → v ≡ f u → length xs ≡ i → i < n → set t i v ≡ filled_up n (map f (xs ++ u ∷ []))
filled_map_more f n xs i u p q e l =
    ap₂ (λ (r : List ℕ) (m : ℕ). set r i m) p q
    ∙ filled_more n (map f xs) i (f u) (length-map xs f ∙ e) l
    ∙ ap (filled_up n) (sym (map-append f xs (u ∷ [])))

-- past the end a number counts 0, filled up or not
filled_at : (xs : List ℕ) (n i : ℕ) → get_or (xs ++ replicate n 0) i 0 ≡ get_or xs i 0
filled_at [] zero i = refl
filled_at [] (suc n) zero = refl
filled_at [] (suc n) (suc i) = filled_at [] n i
filled_at (x ∷ xs) n zero = refl
filled_at (x ∷ xs) n (suc i) = filled_at xs n i

-- ---- what is handed over

-- nothing
pub trail_none : (w : ℕ) (masks : List ℕ) (y : ℕ) {c : List ℕ} → c ≡ [] → no_trail ≡ trail_of w masks c y
unfolding trail_of
trail_none w masks y e = rw e

-- it holds the path and its marks again
module _ (w : ℕ) (masks c : List ℕ) (y : ℕ) where
  pub trail_nodes : take (trail_of w masks c y).len (trail_of w masks c y).nodes ≡ c
  unfolding trail_of
  trail_nodes = take_at c (replicate (most_nodes - length c) 0) (length c) refl

  pub trail_marks : take (trail_of w masks c y).len (trail_of w masks c y).marks ≡ marks_of w masks c y
  unfolding trail_of
  trail_marks = take_at (marks_of w masks c y) (replicate (most_nodes - length (marks_of w masks c y)) 0) (length c) (length_marks w masks c y)

-- of a path back to where it begins, that of a circle
pub trail_back : (w : ℕ) (masks rows : List ℕ) (s : ℕ) → trail_of w masks (path_of rows s s) s ≡ circle_trail w masks (path_of rows s s)
unfolding trail_of path_of
trail_back w masks rows s = go (both (ltb s (length rows)) (ltb (between rows s s) (length rows)))
  where
    go : (b : Bool) → trail_of w masks (cond b (s ∷ least_between rows s (between rows s s) s) []) s
        ≡ circle_trail w masks (cond b (s ∷ least_between rows s (between rows s s) s) [])
    go true = refl
    go false = refl

-- masks in more places than there are occurrences
into_filled : (w : ℕ) (masks : List ℕ) (n j : ℕ) → edge_into w (filled_up n masks) j ≡ edge_into w masks j
unfolding edge_into
into_filled w masks n j = ap (λ (m : ℕ). allowed (j / w) (bit (j % w) m)) (filled_at masks (n - length masks) (j / w))

marks_filled : (w : ℕ) (masks : List ℕ) (n : ℕ) (ts : List ℕ)
    → map (mark_into w (filled_up n masks)) ts ≡ map (mark_into w masks) ts
marks_filled w masks n [] = refl
marks_filled w masks n (t ∷ ts) =
    ap₂ (λ (b : Bool) (ms : List ℕ). mark_of b ∷ ms) (into_filled w masks n t) (marks_filled w masks n ts)

pub trail_filled : (w : ℕ) (masks : List ℕ) (n : ℕ) (c : List ℕ) (y : ℕ) → trail_of w (filled_up n masks) c y ≡ trail_of w masks c y
unfolding trail_of
trail_filled w masks n c y =
    ap (λ (ms : List ℕ). trail (filled_up most_nodes c) (filled_up most_nodes ms) (length c))
    (marks_filled w masks n (targets_of c y))
