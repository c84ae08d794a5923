-- The first combination of a turn and the next after one, by the symbols of the entries: what the code promises of any numbers.
-- Assumes nothing.
use Rattle.std.specs.Prelude.{Bool, true, false, List, ◌≡◌, ℕ, zero, suc, get_or, set}
use Rattle.std.specs.Option.{option_map_or}
use Rattle.candidates.specs.Next.{next_of}

-- whether there is such a combination, and the seven numbers
pub record Moved : Type 0 where
  pub more : Bool
  pub numbers : List ℕ

abbrev pub moved : Bool → List ℕ → Moved
moved more numbers = record { more = more; numbers = numbers }

-- of the places below i, from the last down
module _ (symbols rights : List ℕ) where
  unfoldable pub firsts_to : ℕ → ℕ → List ℕ → Moved
  firsts_to first zero numbers = moved true numbers
  firsts_to first (suc i) numbers =
      option_map_or (λ e. firsts_to first i (set numbers i e)) (next_of symbols (get_or rights i 0) 0 first) (moved false numbers)

  unfoldable pub moved_to : List ℕ → ℕ → ℕ → List ℕ → Moved
  moved_to firsts first zero numbers = moved false numbers
  moved_to firsts first (suc i) numbers =
      option_map_or (λ e. moved true (set numbers i e)) (next_of symbols (get_or rights i 0) (suc (get_or numbers i 0)) first)
      (moved_to firsts first i (set numbers i (get_or firsts i 0)))

-- this is what was found
pub record Found (m : Moved) (more : Bool) (numbers : List ℕ) : Type 0 where
  pub more_is : more ≡ m.more
  pub numbers_are : numbers ≡ m.numbers
