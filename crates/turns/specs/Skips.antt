-- The combinations of a turn that have an entry from a number on, and how those that have none are passed over. Assumes nothing.
use Rattle.std.specs.Prelude.{Bool, not, cond, List, Option, None, Some, ℕ, zero, suc, ltb, get_or, set, take}
use Rattle.std.specs.List.{list_all}
use Rattle.std.specs.Option.{option_map_or}
use Rattle.numbers.specs.Lists.{keep}
use Rattle.candidates.specs.Next.{next_of}
use Rattle.turns.specs.declared.Newest.{Newest}

-- each entry of the combination is below `old`
abbrev pub all_below : ℕ → List ℕ → Bool
all_below old c = list_all (λ i. ltb i old) c

-- the others, in the same order
abbrev pub with_new : ℕ → List (List ℕ) → List (List ℕ)
with_new old cs = keep (λ c. not (all_below old c)) cs

-- of the places below i the last that has a candidate from `old` on, and the first of these
unfoldable pub newest_to : List ℕ → List ℕ → ℕ → ℕ → ℕ → Option Newest
newest_to symbols rights old first zero = None
newest_to symbols rights old first (suc i) =
    option_map_or (λ e. Some (record { place = i; entry = e })) (next_of symbols (get_or rights i 0) old first) (newest_to symbols rights old first i)

-- where they are all below, the number at a place goes on to an entry
abbrev pub skipped : ℕ → ℕ → ℕ → ℕ → List ℕ → List ℕ
skipped old places place entry numbers = cond (all_below old (take places numbers)) (set numbers place entry) numbers
