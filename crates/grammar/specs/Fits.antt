-- What is chosen for the right symbols of a production. Assumes nothing.
use Rattle.std.specs.Prelude.{List, [], ◌∷◌, ◌≡◌, ℕ}

-- one number for each of the symbols ss, which passes P and has that symbol
abbrev pub Fits : (ℕ → Type 0) → (ℕ → ℕ) → List ℕ → List ℕ → Type 0
Fits P symbol_of [] [] = Unit {0}
Fits P symbol_of [] (s ∷ ss) = ⊥
Fits P symbol_of (k ∷ ks) [] = ⊥
Fits P symbol_of (k ∷ ks) (s ∷ ss) = P k × (symbol_of k ≡ s) × Fits P symbol_of ks ss
