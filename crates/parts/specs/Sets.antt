-- Sets of symbols below 256, as four numbers of 64 bits. Assumes nothing.
use Rattle.std.specs.Prelude.{Bool, true, false, List, [], ◌∷◌, ℕ, ◌/◌, ◌%◌, ◌^◌, eqb, get_or, set}
use Rattle.std.specs.Int.Bits.{bit_or}
use Rattle.numbers.specs.Number.{bit}
use Rattle.numbers.specs.Lists.{both}

abbrev pub Symbols : Type 0
Symbols = List ℕ

abbrev pub none : Symbols
none = 0 ∷ 0 ∷ 0 ∷ 0 ∷ []

-- a symbol is in a set; one from 256 on is in none
unfoldable pub has : Symbols → ℕ → Bool
has A s = eqb (bit (s % 64) (get_or A (s / 64) 0)) 1

-- with a symbol more; one from 256 on changes nothing
unfoldable pub add : Symbols → ℕ → Symbols
add A s = set A (s / 64) (bit_or (get_or A (s / 64) 0) (2 ^ (s % 64)))

unfoldable pub add_all : Symbols → List ℕ → Symbols
add_all A [] = A
add_all A (s ∷ ss) = add_all (add A s) ss

-- with some symbols more, if the test passes
unfoldable pub add_if : Bool → Symbols → List ℕ → Symbols
add_if true A ss = add_all A ss
add_if false A ss = A

unfoldable pub same_sets : Symbols → Symbols → Bool
same_sets [] [] = true
same_sets [] (y ∷ ys) = false
same_sets (x ∷ xs) [] = false
same_sets (x ∷ xs) (y ∷ ys) = both (eqb x y) (same_sets xs ys)
