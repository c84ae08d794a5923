-- In a table whose edges ascend, the search finds all edges of a production and only them. Assumes nothing.
use mathlib.Core.Path.{◌≡◌, refl, sym, ap, ap₂, subst, ◌∙◌}
use mathlib.Core.Bool.{Bool}
use mathlib.Core.List.{List, ◌++◌, map, map-append, append-nil}
use Prim.Native.Nat.{ℕ, zero, suc, ◌+◌, ◌-◌, ◌*◌, ◌/◌, ◌^◌, ◌≤◌, ◌<◌}
use native.Mathlib.Nat.{pow-suc}
use native.Mathlib.Decide.{dec_le, dec_lt}
use native.Mathlib.Omega.{arith}
use borrow.Author.Tests.{eq-eqb, ne_eqb}
use lib.Dec.{eqb}
use lib.Pow.{pow_pos}
use lib.ListN.{length, take, drop, length-take, length-drop}
use Rattle.numbers.specs.Lists.{up_from, keep}
use Rattle.numbers.proofs.Keeping.{up_from_split, map_same, map_moved, keep_append, keep_none, keep_all}
use Rattle.grammar.specs.declared.Edge.{Edge}
use Rattle.grammar.specs.Grammar.{edges_of}
use Rattle.grammar.specs.Table.{P, E, at_edges, total, edge_in, edges_in, grammar_of}
use Rattle.grammar.specs.Search.{producing, further, seek, run_start, run_end}
use Rattle.grammar.specs.Reading.{run_of}
use Rattle.grammar.proofs.Lookups.{edge_in_part}
use Rattle.grammar.proofs.Seeking.{further_few, further_on, further_not, run_none, run_there}

-- the edges from `at` on are of p or above, those before it are below p
pub record Splits (bs : List ℕ) (p at : ℕ) : Type 0 where
  pub inside : at ≤ E bs
  pub low : (i : ℕ) → i < at → producing bs i < p
  pub high : (i : ℕ) → at ≤ i → i < E bs → p ≤ producing bs i

module _ (bs : List ℕ) (sorted : (i j : ℕ) → i ≤ j → j < E bs → producing bs i ≤ producing bs j) where
  -- the edges at `at` + 2 ^ k - 1 and after are of p or above
  seek_splits :
      (p k at : ℕ)
      → at ≤ E bs
      → ((i : ℕ) → i < at → producing bs i < p)
      → ((i : ℕ) → at + 2 ^ k ≤ i + 1 → i < E bs → p ≤ producing bs i)
      → Splits bs p (seek k bs p at) × (at ≤ seek k bs p at)
  unfolding seek
  seek_splits p zero at h low high = (record { inside = h; low = low; high = λ i l u. high i (omega arith) u }, omega arith)
  seek_splits p (suc k) at h low high = by_few (dec_le (at + 2 ^ k) (E bs)) (seek_splits p k)
    where
      Next : Type 0
      Next =
          (at : ℕ)
          → at ≤ E bs
          → ((i : ℕ) → i < at → producing bs i < p)
          → ((i : ℕ) → at + 2 ^ k ≤ i + 1 → i < E bs → p ≤ producing bs i)
          → Splits bs p (seek k bs p at) × (at ≤ seek k bs p at)

      Goal : ℕ → Type 0
      Goal from = Splits bs p (seek k bs p from) × (at ≤ seek k bs p from)

      by_few : Dec (at + 2 ^ k ≤ E bs) → Next → Goal (further bs p (2 ^ k) at)
      by_few (no n) next =
          subst Goal (sym (further_few bs p (2 ^ k) at (omega arith))) (next at h low (λ i l u. absurd (omega arith)))
      by_few (yes y) next = by_last (dec_lt (producing bs (at + 2 ^ k - 1)) p)
        where
          by_last : Dec (producing bs (at + 2 ^ k - 1) < p) → Goal (further bs p (2 ^ k) at)
          by_last (yes l) =
              let low' : (i : ℕ) → i < at + 2 ^ k → producing bs i < p = λ i u. omega (arith, sorted i (at + 2 ^ k - 1) (omega arith) (omega (arith, pow_pos k))) in
              let r = next (at + 2 ^ k) y low' (λ i u v. high i (omega (arith, pow-suc 2 k)) v) in
              subst Goal (sym (further_on bs p (2 ^ k) at y l)) (r.0, omega (arith, r.1))
          by_last (no l) =
              subst
              Goal
              (sym (further_not bs p (2 ^ k) at y (omega arith)))
              (next at h low (λ i u v. omega (arith, sorted (at + 2 ^ k - 1) i (omega arith) v)))

  module _ (few : E bs ≤ 65535) (p : ℕ) where
    pub first_splits : Splits bs p (run_start bs p)
    first_splits = (seek_splits p 16 0 (omega arith) (λ i u. absurd (omega arith)) (λ i u v. absurd (omega arith))).0

    pub end_splits : Splits bs (p + 1) (run_end bs p) × (run_start bs p ≤ run_end bs p)
    end_splits =
        seek_splits
        (p + 1)
        16
        (run_start bs p)
        first_splits.inside
        (λ i u. omega (arith, first_splits.low i u))
        (λ i u v. absurd (omega arith))

    -- all edges of p, by number
    pub all_of :
        edges_of (grammar_of bs) p ≡ map (λ i. edge_in bs (at_edges bs + 6 * i)) (up_from (run_start bs p) (run_end bs p - run_start bs p))
    unfolding grammar_of edge_in
    all_of =
        ap (λ l. keep t (map f l)) split
        ∙ ap (keep t) (map-append f (up_from 0 first) (up_from first n ++ up_from end m))
        ∙ keep_append t (map f (up_from 0 first)) (map f (up_from first n ++ up_from end m))
        ∙ ap₂ ◌++◌ (keep_none t f 0 first (λ k l u. ne_eqb _ _ (λ e. under k u e))) later
      where
        first : ℕ
        first = run_start bs p

        end : ℕ
        end = run_end bs p

        n : ℕ
        n = end - first

        m : ℕ
        m = E bs - end

        t : Edge → Bool
        t e = eqb e.production p

        f : ℕ → Edge
        f i = edge_in bs (at_edges bs + 6 * i)

        last : end ≤ E bs
        last = end_splits.0.inside

        forward : first ≤ end
        forward = end_splits.1

        split : up_from 0 (E bs) ≡ up_from 0 first ++ (up_from first n ++ up_from end m)
        split =
            let e : E bs ≡ first + (n + m) = omega (arith, last, forward) in
            let a : 0 + first ≡ first = omega arith in
            let b : first + n ≡ end = omega (arith, forward) in
            ap (up_from 0) e
            ∙ up_from_split 0 first (n + m)
            ∙ ap (λ k. up_from 0 first ++ up_from k (n + m)) a
            ∙ ap (λ l. up_from 0 first ++ l) (up_from_split first n m ∙ ap (λ k. up_from first n ++ up_from k m) b)

        under : (k : ℕ) → k < 0 + first → producing bs k ≡ p → ⊥
        under k u e = omega (arith, first_splits.low k (omega (arith, u)))

        over : (k : ℕ) → end ≤ k → k < end + m → producing bs k ≡ p → ⊥
        over k l u e = omega (arith, end_splits.0.high k l (omega (arith, last)))

        of_p : (k : ℕ) → first ≤ k → k < first + n → producing bs k ≡ p
        of_p k l u =
            omega
            (arith, first_splits.high k l (omega (arith, last, forward)), end_splits.0.low k (omega (arith, forward)))

        later : keep t (map f (up_from first n ++ up_from end m)) ≡ map f (up_from first n)
        later =
            ap (keep t) (map-append f (up_from first n) (up_from end m))
            ∙ keep_append t (map f (up_from first n)) (map f (up_from end m))
            ∙ ap₂
            ◌++◌
            (keep_all t f first n (λ k l u. eq-eqb _ _ (of_p k l u)))
            (keep_none t f end m (λ k l u. ne_eqb _ _ (over k l u)))
            ∙ append-nil (map f (up_from first n))

-- ---- the bytes of a run
module _ (bs : List ℕ) (n m : ℕ) where
  pub edges_in_part :
      (k : ℕ)
      → n ≡ 6 * k
      → m + n ≤ length bs
      → edges_in (take n (drop m bs)) ≡ map (λ i. edge_in bs (m + 6 * i)) (up_from 0 k)
  unfolding edges_in
  edges_in_part k e h =
      let l : length (take n (drop m bs)) ≡ n = omega (arith, length-take n (drop m bs), length-drop m bs) in
      let q : length (take n (drop m bs)) / 6 ≡ k = omega (arith, l) in
      ap (λ j. map (λ i. edge_in (take n (drop m bs)) (6 * i)) (up_from 0 j)) q
      ∙ map_same _ _ 0 k (λ i l u. edge_in_part bs n m (6 * i) (m + 6 * i) (omega arith) refl)

module _
    (bs : List ℕ)
    (sorted : (i j : ℕ) → i ≤ j → j < E bs → producing bs i ≤ producing bs j)
    (few : E bs ≤ 65535)
    (given : total bs ≡ length bs)
    (below : (i : ℕ) → i < E bs → producing bs i < P bs)
    (p : ℕ) where
  some : p < P bs → edges_in (run_of bs p) ≡ edges_of (grammar_of bs) p
  some h =
      let first = run_start bs p in
      let n = run_end bs p - first in
      let split = end_splits bs sorted few p in
      let last = split.0.inside in
      let forward = split.1 in
      ap edges_in (run_there bs p h)
      ∙ edges_in_part bs (6 * n) (at_edges bs + 6 * first) n refl (omega (arith, last, forward))
      ∙ map_same
      (λ i. edge_in bs (at_edges bs + 6 * first + 6 * i))
      (λ i. edge_in bs (at_edges bs + 6 * (first + i)))
      0
      n
      (λ i l u. ap (edge_in bs) (omega arith))
      ∙ map_moved (λ i. edge_in bs (at_edges bs + 6 * i)) first n
      ∙ sym (all_of bs sorted few p)

  none : P bs ≤ p → edges_in (run_of bs p) ≡ edges_of (grammar_of bs) p
  unfolding edges_in up_from grammar_of edge_in
  none h =
      ap edges_in (run_none bs p h)
      ∙ sym
      (keep_none
      (λ e. eqb e.production p)
      (λ i. edge_in bs (at_edges bs + 6 * i))
      0
      (E bs)
      (λ k l u. ne_eqb (producing bs k) p (λ e. omega (arith, below k (omega arith)))))

  pub run_is_all : edges_in (run_of bs p) ≡ edges_of (grammar_of bs) p
  run_is_all = by (dec_lt p (P bs))
    where
      by : Dec (p < P bs) → edges_in (run_of bs p) ≡ edges_of (grammar_of bs) p
      by (yes h) = some h
      by (no n) = none (omega arith)
