-- Orders of turns: which production has its turn next, by what is stored. Passes are such an order. A turn may leave out what its production
-- has tried before. Assumes nothing.
use Rattle.std.specs.Prelude.{◌≡◌, ◌⊎◌, true, cond, ℕ, zero, suc, ◌<◌, ◌≤◌, eqb, length}
use mathlib.Core.List.{List, [], ◌∷◌, Memᴰ}
use Rattle.numbers.specs.Lists.{Distinct}
use Rattle.rules.specs.Passes.{System, entry}
use Rattle.rules.specs.Fresh.{Since, no_turn, began, stale, unstale}
use Rattle.orders.specs.Stored.{FitsIn}
use Rattle.orders.specs.Modes.{Mode, Candidate, Turned}
use Rattle.orders.specs.Plans.{Plan, end, tries_plan}

-- It is over after the pass number n. Or in the pass number n the production p has a turn, and what is stored when the turn ends says how the
-- order goes on.
pub data Order (Store : Type 0) : Type 0 where
  over : ℕ → Order Store
  turn : ℕ → ℕ → (Store → Order Store) → Order Store

-- ---- the plan of an order: what a turn of p tries is offered by what is stored, and may depend on when its latest turn began
module _ {Store : Type 0} (size : Store → ℕ) (offers : ℕ → ℕ → Store → List (List ℕ)) where
  unfoldable pub order_plan : Order Store → Since → Store → Plan Store
  order_plan (over n) since s = end n
  order_plan (turn n p f) since s = tries_plan n p (offers (since p) p s) (λ t. order_plan (f t) (began p (size s) since) t) s

-- a turn tries all combinations, or those that are not stale
module _ {Store : Type 0} (combos : ℕ → Store → List (List ℕ)) where
  abbrev pub all_of : ℕ → ℕ → Store → List (List ℕ)
  all_of n p s = combos p s

  abbrev pub fresh_of : ℕ → ℕ → Store → List (List ℕ)
  fresh_of n p s = unstale n (combos p s)

-- what a turn may try: the combinations of live entries, each once
pub record Combos {W : System} (M : Mode W) : Type 0 where
  pub of : ℕ → M.Store → List (List ℕ)
  pub fit : (p : ℕ) (s : M.Store) (c : List ℕ) → Memᴰ c (of p s) → FitsIn (M.entries s) (Candidate M s) c (W.rights p)
  pub all : (p : ℕ) (s : M.Store) (c : List ℕ) → FitsIn (M.entries s) (Candidate M s) c (W.rights p) → Memᴰ c (of p s)
  pub once : (p : ℕ) (s : M.Store) → Distinct (of p s)

-- what turns offer: all of these, but for some that are stale
pub record Offers {W : System} (M : Mode W) : Type 0 where
  pub of : ℕ → ℕ → M.Store → List (List ℕ)
  pub fit : (k p : ℕ) (s : M.Store) (c : List ℕ) → Memᴰ c (of k p s) → FitsIn (M.entries s) (Candidate M s) c (W.rights p)
  pub all : (k p : ℕ) (s : M.Store) (c : List ℕ) → FitsIn (M.entries s) (Candidate M s) c (W.rights p)
      → Memᴰ c (of k p s) ⊎ (stale k c ≡ true)

-- ---- passes
module _ {Store : Type 0} where
  -- one turn for each of ps, and then f
  unfoldable pub turns_order : ℕ → List ℕ → (Store → Order Store) → Store → Order Store
  turns_order n [] f s = f s
  turns_order n (p ∷ ps) f s = turn n p (turns_order n ps f)

  module _ (size : Store → ℕ) where
    -- after the pass number n, which began with k entries: over where it stored nothing
    abbrev pub after_turns : ℕ → ℕ → (Store → Order Store) → Store → Order Store
    after_turns n k f s = cond (eqb (size s) k) (over n) (f s)

    -- `fuel` more passes at the most, where n have begun
    unfoldable pub passes_order : ℕ → List ℕ → ℕ → Store → Order Store
    passes_order zero ps n s = over n
    passes_order (suc fuel) ps n s = turns_order (suc n) ps (after_turns (suc n) (size s) (passes_order fuel ps (suc n))) s

-- ---- each production has a turn, and another after each change of its candidates
module _ {W : System} (M : Mode W) where
  -- p has had a turn, and no candidate for its right symbols has been stored since the latest one began
  pub record Rests (since : Since) (s : M.Store) (p : ℕ) : Type 0 where
    pub stored : ℕ
    pub latest : since p ≡ suc stored
    pub none : (i : ℕ) → Candidate M s i → Memᴰ (entry (M.entries s) i).symbol (W.rights p) → i < stored

  -- for the productions that take part, in a room of R: whatever turns might store, the order is not over before each production rests
  abbrev pub Careful : (ℕ → Type 0) → ℕ → Order M.Store → Since → M.Store → Type 0
  Careful Part R (over n) since s = (p : ℕ) → Part p → Rests since s p
  Careful Part R (turn n p f) since s =
      Part p
      × ((t : M.Store) → length (M.entries t) ≤ R → Turned M p s t → Careful Part R (f t) (began p (length (M.entries s)) since) t)

  -- the plan of passes from the start, `fuel` at the most
  abbrev pub passes_plan_of : (ℕ → ℕ → M.Store → List (List ℕ)) → List ℕ → ℕ → Plan M.Store
  passes_plan_of offers ps fuel =
      order_plan (λ s. length (M.entries s)) offers (passes_order (λ s. length (M.entries s)) fuel ps 0 M.start) no_turn M.start
