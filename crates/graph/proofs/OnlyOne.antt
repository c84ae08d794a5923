-- No second path and no second circle is the shortest and least. Assumes nothing.
use mathlib.Core.Path.{◌≡◌, refl, sym, ap₂, ◌∙◌}
use mathlib.Core.List.{List, [], ◌∷◌}
use mathlib.Core.Logic.{inl, inr}
use Prim.Native.Nat.{ℕ, ◌≤◌, ◌<◌}
use native.Mathlib.Decide.{dec_lt}
use native.Mathlib.Omega.{arith}
use lib.ListN.{length}
use Rattle.numbers.specs.Lists.{Below}
use Rattle.graph.specs.Paths.{IsPath, ShortestPath, IsCircle, ShortestCircle, OrNone, PathOrNone, CircleOrNone}
use Rattle.graph.specs.Search.{path_of, circle_of}
use Rattle.graph.proofs.PathFound.{path_right}
use Rattle.graph.proofs.CircleFound.{circle_right}

not_below : (xs ys : List ℕ) → length xs ≡ length ys → ¬ Below xs ys → ¬ Below ys xs → xs ≡ ys
not_below [] [] e p q = refl
not_below [] (y ∷ ys) e p q = absurd (omega arith)
not_below (x ∷ xs) [] e p q = absurd (omega arith)
not_below (x ∷ xs) (y ∷ ys) e p q = go (dec_lt x y) (dec_lt y x) (not_below xs ys (omega arith))
  where
    go : Dec (x < y) → Dec (y < x) → (¬ Below xs ys → ¬ Below ys xs → xs ≡ ys) → x ∷ xs ≡ y ∷ ys
    go (yes l) d r = absurd (p (inl l))
    go (no f) (yes l) r = absurd (q (inl l))
    go (no f) (no k) r =
        let h : x ≡ y = omega arith in
        ap₂ (λ (u : ℕ) (us : List ℕ). u ∷ us) h (r (λ b. p (inr (h, b))) (λ b. q (inr (sym h, b))))

-- neither of two lists is longer than the other, nor below it
module _ (c d : List ℕ) (cd : length c ≤ length d) (dc : length d ≤ length c) where
  same_list : (length d ≡ length c → ¬ Below d c) → (length c ≡ length d → ¬ Below c d) → c ≡ d
  same_list p q =
      let e : length c ≡ length d = omega arith in
      not_below c d e (q e) (p (sym e))

-- what is only one where it is there, is only one or none
one_or_none : (Asked Kind : List ℕ → Type 0) → ((c d : List ℕ) → Asked c → Asked d → c ≡ d) → ((c : List ℕ) → Asked c → Kind c)
    → (c d : List ℕ) → OrNone Asked Kind c → OrNone Asked Kind d → c ≡ d
one_or_none Asked Kind one kind c d (inl p) (inl q) = one c d p q
one_or_none Asked Kind one kind c d (inl p) (inr q) = absurd (q.1 c (kind c p))
one_or_none Asked Kind one kind c d (inr p) (inl q) = absurd (p.1 d (kind d q))
one_or_none Asked Kind one kind c d (inr p) (inr q) = p.0 ∙ sym q.0

one_path : (rows : List ℕ) (x y : ℕ) (c d : List ℕ) → ShortestPath rows x y c → ShortestPath rows x y d → c ≡ d
one_path rows x y c d p q =
    same_list c d (p.shortest d q.path) (q.shortest c p.path) (p.least d q.path) (q.least c p.path)

one_circle : (rows c d : List ℕ) → ShortestCircle rows c → ShortestCircle rows d → c ≡ d
one_circle rows c d p q =
    same_list c d (p.shortest d q.circle) (q.shortest c p.circle) (p.least d q.circle q.smallest)
    (q.least c p.circle p.smallest)

-- whatever is asked for is what is found
pub path_only : (rows : List ℕ) (x y : ℕ) → y < length rows → (c : List ℕ) → PathOrNone rows x y c → c ≡ path_of rows x y
path_only rows x y l c h =
    one_or_none (ShortestPath rows x y) (IsPath rows x y) (one_path rows x y) (λ d p. p.path) c (path_of rows x y) h (path_right rows x y l)

pub circle_only : (rows c : List ℕ) → CircleOrNone rows c → c ≡ circle_of rows
circle_only rows c h =
    one_or_none (ShortestCircle rows) (IsCircle rows) (one_circle rows) (λ d p. p.circle) c (circle_of rows) h (circle_right rows)
