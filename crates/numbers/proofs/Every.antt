-- A test over a list, element by element: of a list, and of what is left of it from k on. Assumes nothing.
use mathlib.Core.Path.{◌≡◌, refl, sym, ap, ◌∙◌}
use mathlib.Core.Bool.{Bool, true, false}
use mathlib.Core.List.{List, [], ◌∷◌}
use Prim.Native.Nat.{ℕ, ◌+◌, ◌≤◌, ◌<◌}
use native.Mathlib.Numerals.{add-one}
use lib.ListN.{length, get_or, drop, drop_of_length-le}
use lib.Seq.{drop-cons}
use Rattle.std.specs.Prelude.{◌&&◌}
use Rattle.std.specs.List.{list_all}
use Rattle.numbers.specs.Lists.{both, every}

module _ {A : Type 0} (f : A → Bool) where
  -- what `all` of an iterator answers
  pub every_is : (l : List A) → list_all f l ≡ every f l
  unfolding every both
  every_is [] = refl
  every_is (x ∷ l) = go (f x) (every_is l)
    where
      go : {a b : Bool} (t : Bool) → a ≡ b → (t && a) ≡ both t b
      go true e = e
      go false e = refl

  pub every_none : every f [] ≡ true
  unfolding every
  every_none = refl

  pub every_passes : (x : A) (xs : List A) → f x ≡ true → every f (x ∷ xs) ≡ every f xs
  unfolding every both
  every_passes x xs h = rw h

  pub every_fails : (x : A) (xs : List A) → f x ≡ false → every f (x ∷ xs) ≡ false
  unfolding every both
  every_fails x xs h = rw h

  module _ (l : List A) (d : A) (k : ℕ) where
    here : k < length l → drop k l ≡ get_or l k d ∷ drop (k + 1) l
    here h = drop-cons l k d h ∙ ap (λ m. get_or l k d ∷ drop m l) (sym (add-one k))

    pub passes_at : k < length l → f (get_or l k d) ≡ true → every f (drop (k + 1) l) ≡ every f (drop k l)
    passes_at h t = sym (ap (every f) (here h) ∙ every_passes _ _ t)

    pub fails_at : k < length l → f (get_or l k d) ≡ false → every f (drop k l) ≡ false
    fails_at h t = ap (every f) (here h) ∙ every_fails _ _ t

    pub passes_all : length l ≤ k → every f (drop k l) ≡ true
    passes_all h = ap (every f) (drop_of_length-le l h) ∙ every_none
