-- A line put into a buffer, by whether it fits. Assumes nothing.
use mathlib.Core.Path.{◌≡◌, refl, sym, ◌∙◌}
use mathlib.Core.Bool.{Bool, true, false}
use mathlib.Core.List.{List, ◌++◌, append_assoc}
use Prim.Native.Nat.{ℕ, ◌+◌, ◌≤◌, ◌<◌}
use native.Mathlib.Nat.{add_assoc}
use native.Mathlib.Omega.{arith}
use borrow.Author.Tests.{leb-true, le-leb, lt-leb}
use borrow.Rule.Slice.PartMut.{put_mid}
use lib.ListN.{length, take, drop, length-append, length-drop}
use lib.Seq.{length-take-le, take_at, drop-append-add, drop-drop}
use Rattle.lines.specs.Buffer.{line_fits, put_line, next, Written}

module _ (line : List ℕ) (at : ℕ) (old : List ℕ) where
  pub too_long : length old < at + length line → Written line at old old at
  unfolding put_line next
  too_long h = record { buffer = simp (lt-leb _ _ h); place = simp (lt-leb _ _ h) }

  pub fitting :
      {new : List ℕ} {r : ℕ} →
      at + length line ≤ length old →
      new ≡ take at old ++ line ++ drop (at + length line) old →
      r ≡ at + length line →
      Written line at old new r
  unfolding put_line next
  fitting h e p = record { buffer = e ∙ simp (le-leb _ _ h); place = p ∙ simp (le-leb _ _ h) }

  pub fitted : {new : List ℕ} {r : ℕ} → at + length line ≤ length old → Written line at old new r → (new ≡ take at old ++ line ++ drop (at + length line) old) × (r ≡ at + length line)
  unfolding put_line next
  fitted h w = (w.buffer ∙ simp (le-leb _ _ h), w.place ∙ simp (le-leb _ _ h))

  -- the next place is one of the buffer's, or its end
  pub inside : {new : List ℕ} {r : ℕ} → at ≤ length old → Written line at old new r → r ≤ length old
  unfolding next
  inside {new} {r} h w = by (line_fits line at old) refl
    where
      by : (b : Bool) → line_fits line at old ≡ b → r ≤ length old
      by true e = rw (w.place, e) (leb-true _ _ e)
      by false e = rw (w.place, e) h

-- a word that was copied into its place
pub put_at : {k : ℕ} {word : List ℕ} (at : ℕ) (old mid : List ℕ) → k ≡ length word → mid ≡ word
    → put_mid at k old mid ≡ take at old ++ word ++ drop (at + length word) old
put_at {k} {word} at old mid l e = rw (e, l, drop-drop) (sym (append_assoc (take at old) word (drop (at + length word) old)))

-- what is put right after a first part of n elements
spliced :
    (xs old k : List ℕ) (n : ℕ) →
    length xs ≡ n →
    take n (xs ++ drop n old) ++ k ++ drop (n + length k) (xs ++ drop n old) ≡ xs ++ k ++ drop (n + length k) old
spliced xs old k n e =
    let past : drop (n + length k) (xs ++ drop n old) ≡ drop (length k) (drop n old) = rw (← e) (drop-append-add xs (drop (length xs) old) (length k)) in
    simp (take_at xs (drop n old) n e, past, drop-drop)

-- a line after a line is their text in one, where it fits
module _ (l k : List ℕ) (at : ℕ) (old : List ℕ) (h : at + length (l ++ k) ≤ length old) where
  size : length (l ++ k) ≡ length l + length k
  size = length-append l k

  ends : length (take at old ++ l) ≡ at + length l
  ends = let s = size in let inside : at ≤ length old = omega arith in simp (length-append, length-take-le at old inside)

  pub lines : {mid new : List ℕ} {m r : ℕ} → Written l at old mid m → Written k m mid new r → Written (l ++ k) at old new r
  lines {mid} {new} {m} {r} p q =
      let s = size in
      let f = fitted l at old (omega arith) p in
      let same : length mid ≡ length old = rw (f.0, length-append, ends, length-drop) (omega arith) in
      let g = fitted k m mid (omega arith) q in
      let whole : new ≡ (take at old ++ l) ++ k ++ drop (at + length l + length k) old =
      (rw (f.1, f.0) at g.0) ∙ spliced (take at old ++ l) old k (at + length l) ends in
      fitting (l ++ k) at old h (whole ∙ simp (size, append_assoc, add_assoc)) (omega arith)
