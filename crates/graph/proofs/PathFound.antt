-- The path that is found is a shortest one and the least of these; where none is found there is none. Assumes nothing.
use mathlib.Core.Path.{◌≡◌, refl, subst}
use mathlib.Core.Bool.{Bool, true, false, cond}
use mathlib.Core.List.Memᴰ
use mathlib.Core.List.{List, [], ◌∷◌, Memᴰ}
use mathlib.Core.Logic.{inl, inr, ⊎_elim, ◌↔◌}
use Prim.Native.Nat.{ℕ, suc, ◌≤◌, ◌<◌}
use native.Mathlib.Decide.{dec_lt}
use native.Mathlib.Omega.{arith}
use borrow.Author.Tests.{lt-ltb, le-ltb}
use lib.Dec.{ltb}
use lib.ListN.{length}
use Rattle.numbers.specs.Number.{bit}
use Rattle.numbers.specs.Lists.{both, Below}
use Rattle.numbers.proofs.Bits.{bit_lt}
use Rattle.graph.specs.Rows.{bits, closure}
use Rattle.graph.specs.Paths.{Chain, IsPath, ShortestPath, PathOrNone}
use Rattle.graph.specs.Search.{level, between, least_between, path_of}
use Rattle.graph.proofs.Closure.{closure_path}
use Rattle.graph.proofs.FirstFrom.{IsFirst, is_first}
use Rattle.graph.proofs.Levels.{Reach, reach_lt, level_sound, level_complete}
use Rattle.graph.proofs.Chains.{chain_reach, path_plus, plus_chain, is_path_low}
use Rattle.graph.proofs.Simple.{short_chain}
use Rattle.graph.proofs.LeastBetween.{LeastChain, least_chain, length_between}

module _ (rows : List ℕ) (x y : ℕ) where
  -- ---- how near y is to x

  between_first : IsFirst (λ (k : ℕ). bit x (level rows y (suc k))) (length rows) 0 (between rows x y)
  unfolding between
  between_first = is_first (λ (k : ℕ). bit x (level rows y (suc k))) (length rows) 0

  pub between_met : between rows x y < length rows → bit x (level rows y (suc (between rows x y))) ≡ 1
  between_met l = omega (arith, between_first.there (omega arith), bit_lt x (level rows y (suc (between rows x y))))

  between_reach : between rows x y < length rows → Reach rows (suc (between rows x y)) x y
  between_reach l = level_sound rows y (suc (between rows x y)) x (between_met l)

  -- no nearer by any links
  pub between_low : (k : ℕ) → Reach rows (suc k) x y → k < length rows → between rows x y ≤ k
  between_low k h l = go (dec_lt k (between rows x y))
    where
      go : Dec (k < between rows x y) → between rows x y ≤ k
      go (yes b) = absurd (omega (arith, between_first.before k (omega arith) b, level_complete rows y (suc k) x h))
      go (no n) = omega arith

  pub between_chain : (zs : List ℕ) → Chain rows x zs y → between rows x y ≤ length zs
  between_chain zs h = go (dec_lt (length zs) (length rows))
    where
      go : Dec (length zs < length rows) → between rows x y ≤ length zs
      go (yes l) = between_low (length zs) (chain_reach rows x zs y h) l
      go (no n) = omega (arith, between_first.to)

  pub between_some : (zs : List ℕ) → Chain rows x zs y → between rows x y < length rows
  between_some zs h =
      let s = short_chain rows y x zs h in
      omega (arith, s.2, between_chain s.0 s.1)

  -- ---- what is found

  pub path_there : y < length rows → between rows x y < length rows → path_of rows x y ≡ x ∷ least_between rows y (between rows x y) x
  unfolding path_of both
  path_there l h = rw (lt-ltb y (length rows) l, lt-ltb (between rows x y) (length rows) h)

  pub path_none : length rows ≤ between rows x y → path_of rows x y ≡ []
  unfolding path_of both
  path_none h = rw (le-ltb (between rows x y) (length rows) h) (either (ltb y (length rows)))
    where
      either : (b : Bool) → cond (both b false) (x ∷ least_between rows y (between rows x y) x) [] ≡ []
      either true = refl
      either false = refl

  -- where x or y is no node
  pub path_from_out : length rows ≤ x → path_of rows x y ≡ []
  path_from_out h = path_none (go (dec_lt (between rows x y) (length rows)))
    where
      go : Dec (between rows x y < length rows) → length rows ≤ between rows x y
      go (yes l) = absurd (omega (arith, reach_lt rows (between rows x y) x y (between_reach l)))
      go (no n) = omega arith

  pub path_out : length rows ≤ y → path_of rows x y ≡ []
  unfolding path_of both
  path_out h = rw (le-ltb y (length rows) h)

  -- a path's links from x on
  links : (us : List ℕ) {u : ℕ} → IsPath rows x y (u ∷ us) → Chain rows x us y
  links us h = rw h.0 at h.1

  shortest : between rows x y < length rows → ShortestPath rows x y (x ∷ least_between rows y (between rows x y) x)
  shortest l = go (least_between rows y (between rows x y) x) (least_chain rows y (between rows x y) x (between_reach l))
    where
      go : (zs : List ℕ) → LeastChain rows y (between rows x y) x zs → ShortestPath rows x y (x ∷ zs)
      go zs g = record { path = (refl, g.chain); shortest = λ d h. long d h; least = λ d h e. least d h e }
        where
          long : (d : List ℕ) → IsPath rows x y d → suc (length zs) ≤ length d
          long [] h = absurd h
          long (u ∷ us) h = omega (arith, g.long, between_chain us (links us h))

          least : (d : List ℕ) → IsPath rows x y d → length d ≡ suc (length zs) → ¬ Below d (x ∷ zs)
          least [] h e b = b
          least (u ∷ us) h e (inl b) = omega (arith, h.0)
          least (u ∷ us) h e (inr b) = g.least us (omega (arith, g.long)) (links us h) b.1

  -- what is found is what is asked for
  pub path_right : y < length rows → PathOrNone rows x y (path_of rows x y)
  path_right l = go (dec_lt (between rows x y) (length rows))
    where
      none : length rows ≤ between rows x y → (d : List ℕ) → ¬ IsPath rows x y d
      none n [] h = h
      none n (u ∷ us) h = omega (arith, between_some us (links us h))

      go : Dec (between rows x y < length rows) → PathOrNone rows x y (path_of rows x y)
      go (yes b) = inl (rw (path_there l b) (shortest b))
      go (no n) = inr (path_none (omega arith), none (omega arith))

  -- none is found exactly if there is none
  pub path_exactly : y < length rows → (path_of rows x y ≡ []) ↔ ((d : List ℕ) → ¬ IsPath rows x y d)
  path_exactly l = (
    λ e. ⊎_elim (λ t. absurd (subst (IsPath rows x y) e t.path)) (λ n. n.1) (path_right l),
    λ n. ⊎_elim (λ t. absurd (n (path_of rows x y) t.path)) (λ m. m.0) (path_right l),
  )

  -- one is found exactly if the closure has the pair
  pub path_closed : y < length rows → (bits (closure rows) x y ≡ 1) ↔ ShortestPath rows x y (path_of rows x y)
  path_closed l = (
    λ h.
        let c = plus_chain rows ((closure_path rows x y).0 h) in
        ⊎_elim (λ t. t) (λ n. absurd (n.1 (x ∷ c.0) (refl, c.1))) (path_right l),
    λ t. (closure_path rows x y).1 (path_plus rows x y (path_of rows x y) t.path),
  )

  -- it has at most as many links as there are nodes
  pub path_long : length (path_of rows x y) ≤ length rows
  path_long = go (dec_lt y (length rows)) (dec_lt (between rows x y) (length rows))
    where
      go : Dec (y < length rows) → Dec (between rows x y < length rows) → length (path_of rows x y) ≤ length rows
      go (yes l) (yes b) = rw (path_there l b) (omega (arith, length_between rows y (between rows x y) x))
      go (yes l) (no n) = rw (path_none (omega arith)) (omega arith)
      go (no k) d = rw (path_out (omega arith)) (omega arith)

  -- and each of its nodes has a row
  pub path_low : (z : ℕ) → Memᴰ z (path_of rows x y) → z < length rows
  path_low z m = go (dec_lt y (length rows))
    where
      empty : path_of rows x y ≡ [] → z < length rows
      empty e = absurd (Memᴰ.not-nil (subst (Memᴰ z) e m))

      go : Dec (y < length rows) → z < length rows
      go (yes l) = ⊎_elim (λ t. is_path_low rows x y (path_of rows x y) t.path z m) (λ n. empty n.0) (path_right l)
      go (no f) = empty (path_out (omega arith))
