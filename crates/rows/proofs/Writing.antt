-- A list that is written over the front of another, place by place. Assumes nothing.
use mathlib.Core.Path.{◌≡◌, refl, sym, ap, ◌∙◌}
use mathlib.Core.List.{List, [], ◌∷◌, ◌++◌, append_assoc}
use Prim.Native.Nat.{ℕ, ◌+◌, ◌-◌, ◌≤◌, ◌<◌}
use native.Mathlib.Omega.{arith}
use lib.ListN.{length, get_or, set, take, drop, take-append-drop, get_or-append}
use lib.Seq.{length_front, length-take-le, drop-append-le, get_or-append-add, get_or-drop}
use Rattle.numbers.specs.Lists.{written}

module _ {A : Type 0} where
  pub length_written : (xs ys : List A) → length xs ≤ length ys → length (written xs ys) ≡ length ys
  length_written xs ys l = length_front ys xs (length xs) (sym (length-take-le (length xs) ys l))

  -- what was written, and the rest as before
  pub written_there : (xs ys : List A) (d : A) (i : ℕ) → i < length xs → get_or (written xs ys) i d ≡ get_or xs i d
  written_there xs ys d i l = get_or-append xs (drop (length xs) ys) d i l

  pub written_rest : (xs ys : List A) (d : A) (i : ℕ) → length xs ≤ i → get_or (written xs ys) i d ≡ get_or ys i d
  written_rest xs ys d i l =
      let e : length xs + (i - length xs) ≡ i = omega arith in
      ap (λ (j : ℕ). get_or (written xs ys) j d) (sym e)
      ∙ get_or-append-add xs (drop (length xs) ys) (i - length xs) d
      ∙ get_or-drop (length xs) ys (i - length xs) d
      ∙ ap (λ (j : ℕ). get_or ys j d) e

  -- one more
  pub written_snoc : (xs ys : List A) (e : A) → length xs < length ys → set (written xs ys) (length xs) e ≡ written (xs ++ (e ∷ [])) ys
  written_snoc [] [] e l = absurd (omega arith)
  written_snoc [] (y ∷ ys) e l = refl
  written_snoc (x ∷ xs) [] e l = absurd (omega arith)
  written_snoc (x ∷ xs) (y ∷ ys) e l = ap (λ (zs : List A). x ∷ zs) (written_snoc xs ys e (omega arith))

  -- in a part at the front, with the rest behind it
  pub written_front : (new old : List A) (n : ℕ) → length new ≤ n → n ≤ length old → written new (take n old) ++ drop n old ≡ written new old
  written_front new old n l h =
      append_assoc new (drop (length new) (take n old)) (drop n old)
      ∙ ap (λ (ys : List A). new ++ ys)
      (sym (drop-append-le (length new) (take n old) (drop n old) (omega (arith, length-take-le n old h)))
      ∙ ap (drop (length new)) (take-append-drop n old))
