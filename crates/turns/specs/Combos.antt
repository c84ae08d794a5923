-- The combinations of a turn, place by place: a place is a right symbol, and of the first n entries those that pass its test are its
-- candidates. Assumes nothing.
use Rattle.std.specs.Prelude.{Bool, true, false, List, [], ◌++◌, map, ◌≡◌, ℕ, zero, suc, ◌-◌, ◌<◌, get_or, take}
use Rattle.numbers.specs.Lists.{up_from, keep}
use Rattle.rules.specs.Passes.{prefixed, combinations}

-- each combination behind the numbers that are chosen already
unfoldable pub under : List ℕ → List (List ℕ) → List (List ℕ)
under chosen cs = map (λ c. chosen ++ c) cs

-- Whether an entry is a candidate of a place, how many entries there are, and how many places.
module _ (test : ℕ → ℕ → Bool) (n places : ℕ) where
  -- the candidates of place i with numbers from e on
  abbrev pub candidates_from : ℕ → ℕ → List ℕ
  candidates_from i e = keep (test i) (up_from e (n - e))

  -- the combinations of the places from i on
  unfoldable pub combos_of : ℕ → List (List ℕ)
  combos_of i = combinations (map (λ j. candidates_from j 0) (up_from i (places - i)))

  -- the combinations that begin as the first i of the picked numbers do
  unfoldable pub combos_from : ℕ → List ℕ → List (List ℕ)
  combos_from i picked = under (take i picked) (combos_of i)

  -- of these, those with a candidate from e on at place i
  unfoldable pub part_from : ℕ → ℕ → List ℕ → List (List ℕ)
  part_from i e picked = under (take i picked) (prefixed (candidates_from i e) (combos_of (suc i)))

  -- those that come after the picked numbers of the first i places
  unfoldable pub behind : ℕ → List ℕ → List (List ℕ)
  behind zero picked = []
  behind (suc i) picked = part_from i (suc (get_or picked i 0)) picked ++ behind i picked

  -- e is the first candidate of place i
  pub record First (i e : ℕ) : Type 0 where
    pub low : e < n
    pub hit : test i e ≡ true
    pub none : (j : ℕ) → j < e → test i j ≡ false
