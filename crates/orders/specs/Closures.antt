-- The closures of a run, and how many combinations there are. Assumes nothing.
use Rattle.std.specs.Prelude.{Bool, true, false, List, [], ◌∷◌, map, ℕ, ◌+◌, ◌*◌, leb, length}
use Rattle.rules.specs.declared.Entry.{Entry}
use Rattle.rules.specs.Passes.{System, candidates}
use Rattle.orders.specs.Modes.{Judged, round, needless, fresh, Mode}
use Rattle.orders.specs.Plans.{Plan, end, next}

-- a production, closed over a combination
abbrev pub Closure : Type 0
Closure = ℕ × List ℕ

module _ {Store : Type 0} where
  -- the six steps, as in `tried`; l has the closures made before, the latest first
  unfoldable pub closing : Bool → Judged Store → Bool → Closure → Store → List Closure → (Store → List Closure → List Closure) → List Closure
  closing true j full x s l more = l
  closing false round full x s l more = x ∷ l
  closing false needless full x s l more = more s (x ∷ l)
  closing false (fresh t) true x s l more = x ∷ l
  closing false (fresh t) false x s l more = more t (x ∷ l)

module _ {W : System} (M : Mode W) where
  -- the closures of `run`, the latest first, after those of l
  unfoldable pub closed : ℕ → ℕ → Plan M.Store → M.Store → List Closure → List Closure
  closed L R (end n) s l = l
  closed L R (next n p c f) s l =
      closing (leb L (length l)) (M.judge p c s) (leb R (length (M.entries s))) (p, c) s l (λ t k. closed L R (f t) t k)

-- ---- how many combinations there are
unfoldable pub product : List ℕ → ℕ
product [] = 1
product (x ∷ xs) = x * product xs

unfoldable pub sum : List ℕ → ℕ
sum [] = 0
sum (x ∷ xs) = x + sum xs

-- for one production: the numbers of entries of its right symbols, multiplied
unfoldable pub combinations_of : System → List Entry → ℕ → ℕ
combinations_of W es p = product (map (λ b. length (candidates es b)) (W.rights p))
