-- What a turn needs to know of its places and of the picked numbers. Assumes nothing.
use Rattle.std.specs.Prelude.{Bool, true, false, List, [], ◌∷◌, ◌≡◌, ℕ, ◌<◌, eqb, get_or, take}
use Rattle.rules.specs.Passes.{seven}
use Rattle.turns.specs.Combos.{combos_of, behind, First}
use Rattle.turns.specs.Moves.{Moved}

-- the candidates of a place are the entries of its right symbol
abbrev pub of_symbol : List ℕ → List ℕ → ℕ → ℕ → Bool
of_symbol symbols rights i e = eqb (get_or symbols e 0) (get_or rights i 0)

-- numbers of entries with which the turn began, in as many of the seven slots as there are places; the other slots have 0
pub record Numbers (places first : ℕ) (picked : List ℕ) : Type 0 where
  pub slots : picked ≡ seven (take places picked)
  pub below : (i : ℕ) → i < places → get_or picked i 0 < first

module _ (test : ℕ → ℕ → Bool) (first places : ℕ) where
  abbrev pub Firsts : List ℕ → Type 0
  Firsts numbers = (j : ℕ) → j < places → First test first places j (get_or numbers j 0)

  -- From xs to ys a place below k moves on to a further candidate: those before it stay, and those after it stand at their first.
  pub record MovesAt (xs : List ℕ) (k : ℕ) (ys : List ℕ) : Type 0 where
    pub place : ℕ
    pub low : place < places
    pub within : place < k
    pub before : (j : ℕ) → j < place → get_or ys j 0 ≡ get_or xs j 0
    pub further : get_or xs place 0 < get_or ys place 0
    pub hit : test place (get_or ys place 0) ≡ true
    pub again : (j : ℕ) → place < j → j < places → First test first places j (get_or ys j 0)

  -- where a turn begins: at the first combination, or there is none
  pub record Begins (m : Moved) : Type 0 where
    pub numbers : m.more ≡ true → Numbers places first m.numbers
    pub firsts : m.more ≡ true → Firsts m.numbers
    pub none : m.more ≡ false → combos_of test first places 0 ≡ []

  -- after the picked numbers comes the next combination, and after it what is left; or nothing is
  pub record GoesOn (picked : List ℕ) (m : Moved) : Type 0 where
    pub numbers : Numbers places first m.numbers
    pub next : m.more ≡ true → behind test first places places picked ≡ take places m.numbers ∷ behind test first places places m.numbers
    pub none : m.more ≡ false → behind test first places places picked ≡ []
    pub moved_at : m.more ≡ true → MovesAt picked places m.numbers
