-- A part of a list, from a to e, clipped to what is there; and a part that is copied element by element. Assumes nothing.
use mathlib.Core.Path.{◌≡◌, refl, sym, ap, ◌∙◌}
use mathlib.Core.List.{List}
use Prim.Native.Nat.{ℕ, ◌+◌, ◌-◌, ◌≤◌, ◌<◌, min}
use native.Mathlib.Decide.{dec_le}
use native.Mathlib.Numerals.{add-one}
use native.Mathlib.Omega.{arith}
use lib.ListN.{length, get_or, set, take, drop, length-drop, drop_of_length-le}
use lib.Seq.{take_all, take-length, drop-length, take-suc, take-suc-set, get_or-drop}

-- a number that is clipped to z, where from z on nothing changes
clip : {A : Type 0} (f : ℕ → A) (m n z : ℕ) → n ≡ min m z → ((k : ℕ) → z ≤ k → f k ≡ f z) → f n ≡ f m
clip f m n z e past = go (dec_le m z)
  where
    go : Dec (m ≤ z) → f n ≡ f m
    go (yes p) = ap f (omega arith)
    go (no p) = ap f (omega arith) ∙ sym (past m (omega arith))

-- to the length of a list
module _ {A : Type 0} (m n : ℕ) (l : List A) (e : n ≡ min m (length l)) where
  pub take_clipped : take n l ≡ take m l
  take_clipped = clip (λ k. take k l) m n (length l) e (λ k p. take_all k l p ∙ sym (take-length l))

  pub drop_clipped : drop n l ≡ drop m l
  drop_clipped = clip (λ k. drop k l) m n (length l) e (λ k p. drop_of_length-le l {i = k} p ∙ sym (drop-length l))

-- both ends clipped
module _ {A : Type 0} (l : List A) (a e : ℕ) where
  pub clipped : a ≤ e → take (min e (length l) - min a (length l)) (drop (min a (length l)) l) ≡ take (e - a) (drop a l)
  clipped h =
      let n : min e (length l) - min a (length l) ≡ min (e - a) (length (drop a l)) = omega (arith, length-drop a l) in
      rw (drop_clipped a (min a (length l)) l refl) (take_clipped (e - a) _ (drop a l) n)

-- a part that is copied, one element more
pub copied_more : {A : Type 0} (d : A) (l from : List A) (at k : ℕ) → k < length l → at + k < length from → take k l ≡ take k (drop at from)
    → take (k + 1) (set l k (get_or from (at + k) d)) ≡ take (k + 1) (drop at from)
copied_more d l from at k h g e =
    let there : k < length (drop at from) = rw length-drop (omega arith) in
    rw (add-one, take-suc-set l k _ h, take-suc (drop at from) k d there, get_or-drop, e)
