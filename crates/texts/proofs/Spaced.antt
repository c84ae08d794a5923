-- The entry numbers after the word `kids`, and the links after the word `circle`, one by one. Assumes nothing.
use mathlib.Core.Path.{◌≡◌, refl, sym, ap, ◌∙◌}
use mathlib.Core.List.{List, [], ◌∷◌, ◌++◌, append-nil, append_assoc}
use Prim.Native.Nat.{ℕ, zero, suc, ◌+◌, ◌<◌}
use native.Mathlib.Numerals.{add-one}
use native.Mathlib.Omega.{arith}
use lib.ListN.{length, get_or, take}
use lib.Seq.{take-suc}
use Rattle.texts.specs.Lines.{tagged, spaced, link_text, links_text}

spaced_append : (xs ys : List ℕ) → spaced (xs ++ ys) ≡ spaced xs ++ spaced ys
unfolding spaced
spaced_append [] ys = refl
spaced_append (x ∷ xs) ys = simp (spaced_append xs ys, append_assoc)

pub one_more : (ks : List ℕ) (i : ℕ) → i < length ks → spaced (take i ks) ++ tagged " " (get_or ks i 0) ≡ spaced (take (i + 1) ks)
unfolding spaced
one_more ks i h = simp (add-one, take-suc ks i 0 h, spaced_append, append-nil)

link_after : (i : ℕ) (xs ms : List ℕ) → i < length xs → i < length ms
    → links_text (take i xs) (take i ms) ++ link_text (get_or xs i 0) (get_or ms i 0) ≡ links_text (take (suc i) xs) (take (suc i) ms)
unfolding links_text
link_after i [] ms h k = absurd (omega arith)
link_after i (x ∷ xs) [] h k = absurd (omega arith)
link_after zero (x ∷ xs) (m ∷ ms) h k = sym (append-nil (link_text x m))
link_after (suc i) (x ∷ xs) (m ∷ ms) h k =
    append_assoc (link_text x m) _ _
    ∙ ap (λ (t : List ℕ). link_text x m ++ t) (link_after i xs ms (omega arith) (omega arith))

pub one_link_more : (xs ms : List ℕ) (i : ℕ) → i < length xs → i < length ms
    → links_text (take i xs) (take i ms) ++ link_text (get_or xs i 0) (get_or ms i 0) ≡ links_text (take (i + 1) xs) (take (i + 1) ms)
one_link_more xs ms i h k = rw add-one (link_after i xs ms h k)
