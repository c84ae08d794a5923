-- The next candidate of a symbol. Assumes nothing.
use Rattle.std.specs.Prelude.{Bool, cond, List, Option, None, Some, ◌≡◌, ℕ, zero, suc, ◌-◌, ◌≤◌, ◌<◌, min, eqb, length, get_or}

-- of n numbers from `from` on the first that passes the test, if one does
unfoldable pub first_up : (ℕ → Bool) → ℕ → ℕ → Option ℕ
first_up t from zero = None
first_up t from (suc n) = cond (t from) (Some from) (first_up t (suc from) n)

-- the next entry of the symbol y at or after `from` and below `first`, if there is one
abbrev pub next_of : List ℕ → ℕ → ℕ → ℕ → Option ℕ
next_of symbols y from first = first_up (λ i. eqb (get_or symbols i 0) y) from (min first (length symbols) - from)

-- e is the next entry of the symbol y at or after `from`, and is below `first`
pub record IsNext (symbols : List ℕ) (y from first e : ℕ) : Type 0 where
  pub after : from ≤ e
  pub within : e < first
  pub none : (i : ℕ) → from ≤ i → i < e → get_or symbols i 0 ≡ y → ⊥
  pub found : get_or symbols e 0 ≡ y

-- what a turn needs to know of it
pub record Next (symbols : List ℕ) (y from first : ℕ) (r : Option ℕ) : Type 0 where
  pub some : (e : ℕ) → r ≡ Some e → IsNext symbols y from first e
  pub none : r ≡ None → (i : ℕ) → from ≤ i → i < first → get_or symbols i 0 ≡ y → ⊥
