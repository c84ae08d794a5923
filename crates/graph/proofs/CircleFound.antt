-- The circle that is found is a shortest one, written from its smallest node, and the least of these; where none is found there is none,
-- and the circle test says the same. Assumes nothing.
use mathlib.Core.Path.{◌≡◌, refl, sym, ap, ◌∙◌, subst}
use mathlib.Core.Bool.{Bool, true, false, true≢false}
use mathlib.Core.List.{List, [], ◌∷◌, Memᴰ}
use mathlib.Core.Logic.{inl, inr, ⊎_elim, ◌↔◌}
use Prim.Native.Nat.{ℕ, suc, ◌≤◌, ◌<◌}
use native.Mathlib.Decide.{dec_lt}
use native.Mathlib.Omega.{arith}
use lib.ListN.{length, get_or}
use Rattle.numbers.specs.Lists.{Below}
use Rattle.numbers.proofs.Members.{at_cons}
use Rattle.graph.specs.declared.Nearest.{Nearest}
use Rattle.graph.specs.Rows.{closure, has_circle}
use Rattle.graph.specs.Paths.{IsPath, ShortestPath, IsCircle, ShortestCircle, CircleOrNone}
use Rattle.graph.specs.Search.{between, least_between, path_of, nearest_to, circle_of}
use Rattle.graph.proofs.Closure.{circle_path}
use Rattle.graph.proofs.Levels.{Reach, reach_lt}
use Rattle.graph.proofs.Chains.{chain_reach, path_plus, plus_chain, around, is_path_low}
use Rattle.graph.proofs.LeastBetween.{length_between}
use Rattle.graph.proofs.PathFound.{between_low, between_chain, between_some, path_there, path_none, path_out, path_right, path_long, path_low}
use Rattle.graph.proofs.CircleStart.{IsNearest, nearest_is}

module _ (rows : List ℕ) where
  -- a circle's first node has a row
  first_low : (x : ℕ) (xs : List ℕ) → IsCircle rows (x ∷ xs) → x < length rows
  first_low x xs h = is_path_low rows x x (x ∷ xs) h x (Memᴰ.head refl)

  -- a shortest path from s back to it, where k is the fewest nodes that any such path has between, and s the smallest node that has so few
  shortest : (s k : ℕ) (ws : List ℕ) → ShortestPath rows s s (s ∷ ws) → length ws ≡ k
      → ((x : ℕ) → x < length rows → k ≤ between rows x x)
      → ((x : ℕ) → Reach rows (suc k) x x → s ≤ x)
      → ShortestCircle rows (s ∷ ws)
  shortest s k ws t e short low = record {
    circle = t.path;
    shortest = λ d h. long d h;
    smallest = λ x m. at_cons (λ (u : ℕ). s ≤ u) (omega arith) (around rows (suc k) s low 0 s ws refl t.path.1 (omega arith) x) m;
    least = λ d h m q. least d h q;
  }
    where
      long : (d : List ℕ) → IsCircle rows d → suc (length ws) ≤ length d
      long [] h = absurd h
      long (x ∷ xs) h = omega (arith, short x (first_low x xs h), between_chain rows x x xs h.1)

      least : (d : List ℕ) → IsCircle rows d → length d ≡ suc (length ws) → ¬ Below d (s ∷ ws)
      least [] h q b = b
      least (x ∷ xs) h q (inl b) =
          let q' : length xs ≡ k = omega arith in
          omega (arith, b, low x (rw q' at (chain_reach rows x xs x h.1)))
      least (x ∷ xs) h q (inr b) = t.least (x ∷ xs) (subst (λ (v : ℕ). IsPath rows v v (x ∷ xs)) b.0 h) q (inr b)

  module _ (b : Nearest) (r : IsNearest rows (length rows) b) where
    abbrev s : ℕ
    s = b.start

    -- no node has a path back to itself
    none : length rows ≤ b.between → CircleOrNone rows (path_of rows b.start b.start)
    none n = inr (empty (dec_lt s (length rows)), no_circle)
      where
        empty : Dec (b.start < length rows) → path_of rows b.start b.start ≡ []
        empty (yes l) = path_none rows s s (omega (arith, r.short s l))
        empty (no f) = path_out rows s s (omega arith)

        no_circle : (d : List ℕ) → ¬ IsCircle rows d
        no_circle [] h = h
        no_circle (x ∷ xs) h = omega (arith, r.short x (first_low x xs h), between_some rows x x xs h.1)

    some : b.between < length rows → CircleOrNone rows (path_of rows b.start b.start)
    some l =
        let t = r.there l in
        let e = path_there rows s s t.0 (omega (arith, t.1)) in
        inl (rw e (⊎_elim
        (λ p. shortest s b.between ws p (length_between rows s (between rows s s) s ∙ t.1) r.short low)
        (λ n. absurd (omega (arith, ap length n.0)))
        (rw e at (path_right rows s s t.0))))
      where
        ws : List ℕ
        ws = least_between rows b.start (between rows b.start b.start) b.start

        low : (x : ℕ) → Reach rows (suc b.between) x x → b.start ≤ x
        low x h =
            let k = reach_lt rows b.between x x h in
            r.first x k (omega (arith, r.short x k, between_low rows x x b.between h l)) l

  -- what is found is what is asked for
  pub circle_right : CircleOrNone rows (circle_of rows)
  unfolding circle_of
  circle_right = go (dec_lt b.between (length rows))
    where
      b : Nearest
      b = nearest_to (length rows) rows

      go : Dec ((nearest_to (length rows) rows).between < length rows)
          → CircleOrNone rows (path_of rows (nearest_to (length rows) rows).start (nearest_to (length rows) rows).start)
      go (yes l) = some b (nearest_is rows (length rows)) l
      go (no n) = none b (nearest_is rows (length rows)) (omega arith)

  -- the circle test says yes exactly if one is found
  pub circle_exactly : (has_circle (closure rows) ≡ true) ↔ ShortestCircle rows (circle_of rows)
  circle_exactly =
      let t = circle_path rows in
      let c = circle_of rows in (
        λ h.
            let p = t.0 h in
            let q = plus_chain rows p.1 in
            ⊎_elim (λ c. c) (λ n. absurd (n.1 (p.0 ∷ q.0) (refl, q.1))) circle_right,
        λ f. t.1 (get_or c 0 0, path_plus rows (get_or c 0 0) (get_or c 0 0) c f.circle),
      )

  -- and no exactly if none is found
  pub circle_none : (has_circle (closure rows) ≡ false) ↔ (circle_of rows ≡ [])
  circle_none = (
    λ h. ⊎_elim (λ c. absurd (true≢false (sym (circle_exactly.1 c) ∙ h))) (λ n. n.0) circle_right,
    λ e. by (has_circle (closure rows)) refl e,
  )
    where
      by : (b : Bool) → has_circle (closure rows) ≡ b → circle_of rows ≡ [] → has_circle (closure rows) ≡ false
      by true h e = absurd (subst (IsCircle rows) e (circle_exactly.0 h).circle)
      by false h e = h

  -- it has at most as many nodes as there are rows
  pub circle_long : length (circle_of rows) ≤ length rows
  unfolding circle_of
  circle_long = let s = (nearest_to (length rows) rows).start in path_long rows s s

  -- and each of its nodes has a row
  pub circle_low : (z : ℕ) → Memᴰ z (circle_of rows) → z < length rows
  unfolding circle_of
  circle_low = let s = (nearest_to (length rows) rows).start in path_low rows s s
