-- The passes without stale combinations: as those of `Passes`, but a turn tries no combination that its production has tried before.
-- Assumes nothing.
use Rattle.std.specs.Prelude.{Bool, false, not, cond, List, [], ◌∷◌, map, ℕ, zero, suc, ltb, eqb, length}
use Rattle.numbers.specs.Lists.{every, keep}
use Rattle.rules.specs.declared.Answer.{Answer}
use Rattle.rules.specs.declared.Answer.TheVariants.{Noncircular}
use Rattle.rules.specs.Passes.{System, State, Ran, going, stopped, no_root, candidates, combinations, tries, Outcome, outcome, unended, empty}

-- ---- what is kept of the turns

-- for each production: 0 before its first turn, then one more than the number of entries that were stored when its latest turn began
abbrev pub Since : Type 0
Since = ℕ → ℕ

abbrev pub no_turn : Since
no_turn p = 0

-- a turn of p begins, with n entries stored
unfoldable pub began : ℕ → ℕ → Since → Since
began p n since q = cond (eqb q p) (suc n) (since q)

-- the production has had a turn before, and all entries of the combination were stored when the latest one began; so the combination
-- without entries, that of a production without right symbols, is stale from the second turn on
unfoldable pub stale : ℕ → List ℕ → Bool
stale zero combo = false
stale (suc n) combo = every (λ i. ltb i n) combo

-- the combinations less the stale ones, in the same order
unfoldable pub unstale : ℕ → List (List ℕ) → List (List ℕ)
unstale n combos = keep (λ combo. not (stale n combo)) combos

-- ---- a turn, a pass, the passes

-- the passes go on, with what is kept of the turns beside the state, or have stopped
pub data Went : Type 0 where
  goes : Since → State → Went
  stops : Answer → List ℕ → State → Went

abbrev pub followed_by : Ran → (State → Went) → Went
followed_by (going s) next = next s
followed_by (stopped a root s) next = stops a root s

module _ (W : System) (limit room : ℕ) where
  -- the candidates are the entries stored when the turn begins
  unfoldable pub fresh_turn : ℕ → Since → State → Ran
  fresh_turn p since s = tries W limit room p (unstale (since p) (combinations (map (candidates s.entries) (W.rights p)))) s

  -- one pass over the productions ps
  unfoldable pub fresh_pass : List ℕ → Since → State → Went
  fresh_pass [] since s = goes since s
  fresh_pass (p ∷ ps) since s = followed_by (fresh_turn p since s) (fresh_pass ps (began p (length s.entries) since))

-- after the pass number `begun`, which began in the state `old`: noncircular where it stored nothing, else more passes
abbrev pub after_fresh : State → ℕ → Went → (Since → State → Outcome) → Outcome
after_fresh old begun (stops a root s) more = outcome a root s begun
after_fresh old begun (goes since s) more =
    cond (eqb (length s.entries) (length old.entries)) (outcome Noncircular no_root s begun) (more since s)

module _ (W : System) (limit room : ℕ) where
  -- `fuel` more passes over ps at the most, where `begun` have begun
  unfoldable pub fresh_passes_from : ℕ → List ℕ → ℕ → Since → State → Outcome
  fresh_passes_from zero ps begun since s = outcome unended no_root s begun
  fresh_passes_from (suc fuel) ps begun since s =
      after_fresh s (suc begun) (fresh_pass W limit room ps since s) (fresh_passes_from fuel ps (suc begun))

  -- each pass but the last stores an entry, so one pass more than the room is enough
  unfoldable pub fresh_passes : List ℕ → Outcome
  fresh_passes ps = fresh_passes_from (suc room) ps 0 no_turn empty
