-- The steps of the binary search for a production's edges. Assumes nothing.
use mathlib.Core.Path.{◌≡◌, refl, sym, ◌∙◌}
use mathlib.Core.Bool.{Bool, true, false, cond}
use mathlib.Core.List.{List, []}
use Prim.Native.Nat.{ℕ, zero, suc, ◌+◌, ◌-◌, ◌*◌, ◌%◌, ◌^◌, ◌≤◌, ◌<◌}
use native.Mathlib.Nat.{one-mul, not-suc-le-zero}
use native.Mathlib.Numerals.{sub-one}
use native.Mathlib.Omega.{arith}
use borrow.Author.Tests.{lt-ltb, le-ltb, le-leb, lt-leb, leb-true}
use lib.Pow.{shl_exact, pow-lt, pow_pos}
use lib.Dec.{leb, ltb}
use lib.ListN.{take, drop}
use Rattle.numbers.specs.Lists.{both}
use Rattle.grammar.specs.Table.{P, E, at_edges}
use Rattle.grammar.specs.Search.{producing, further, seek, run_start, run_end}
use Rattle.grammar.specs.Reading.{run_of}

module _ (bs : List ℕ) (p step at : ℕ) where
  -- fewer edges than that
  pub further_few : E bs < at + step → further bs p step at ≡ at
  unfolding further both
  further_few h = simp (lt-leb _ _ h)

  -- the last of them is below p
  pub further_on : at + step ≤ E bs → producing bs (at + step - 1) < p → further bs p step at ≡ at + step
  unfolding further both
  further_on h l = simp (le-leb _ _ h, lt-ltb _ _ l)

  -- it is not
  pub further_not : at + step ≤ E bs → p ≤ producing bs (at + step - 1) → further bs p step at ≡ at
  unfolding further both
  further_not h l = simp (le-leb _ _ h, le-ltb _ _ l)

  -- the search goes forward, and not past the last edge
  pub further_ahead : at ≤ further bs p step at
  unfolding further
  further_ahead = go (both (leb (at + step) (E bs)) (ltb (producing bs (at + step - 1)) p))
    where
      go : (b : Bool) → at ≤ cond b (at + step) at
      go true = omega arith
      go false = omega arith

  pub further_inside : at ≤ E bs → further bs p step at ≤ E bs
  unfolding further both
  further_inside h = go (leb (at + step) (E bs)) (ltb (producing bs (at + step - 1)) p) refl
    where
      go : (a b : Bool) → leb (at + step) (E bs) ≡ a → cond (both a b) (at + step) at ≤ E bs
      go true true e = leb-true _ _ e
      go true false e = h
      go false b e = h

module _ (bs : List ℕ) (p at : ℕ) where
  pub seek_none : seek 0 bs p at ≡ at
  unfolding seek
  seek_none = refl

  pub seek_more : (k : ℕ) → 0 < k → seek k bs p at ≡ seek (k - 1) bs p (further bs p (2 ^ (k - 1)) at)
  unfolding seek
  seek_more zero h = absurd (not-suc-le-zero h)
  seek_more (suc k) h = rw sub-one

-- the step that the code makes by a shift
pub shifted : (k : ℕ) → k < 16 → (1 * 2 ^ k) % 2 ^ 64 ≡ 2 ^ k
shifted k h = shl_exact 1 k 64 (omega arith) (omega arith) ∙ one-mul (2 ^ k)

pub step_range : (k : ℕ) → k < 16 → (1 ≤ 2 ^ k) × (2 ^ k < 65536)
step_range k h = (pow_pos k, pow-lt h)

module _ (bs : List ℕ) (p : ℕ) where
  pub run_none : P bs ≤ p → run_of bs p ≡ []
  unfolding run_of
  run_none h = simp (le-ltb _ _ h)

  pub run_there :
      p < P bs → run_of bs p ≡ take (6 * (run_end bs p - run_start bs p)) (drop (at_edges bs + 6 * run_start bs p) bs)
  unfolding run_of
  run_there h = simp (lt-ltb _ _ h)

  -- the run, as the code finds it
  pub run_found :
      (first end : ℕ)
      → p < P bs
      → first ≡ run_start bs p
      → end ≡ seek 16 bs (p + 1) first
      → take (6 * (end - first)) (drop (at_edges bs + 6 * first) bs) ≡ run_of bs p
  run_found first end h f e =
      let last : end ≡ run_end bs p = rw f at e in
      rw (last, f) (sym (run_there h))
