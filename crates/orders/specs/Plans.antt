-- A run that tries what a plan chooses by what is stored: any order of turns, and any combinations left out. Assumes nothing.
use Rattle.std.specs.Prelude.{Bool, true, false, List, [], ◌∷◌, ℕ, suc, leb, length}
use Rattle.rules.specs.declared.Answer.{Answer}
use Rattle.rules.specs.declared.Answer.TheVariants.{Noncircular, Circular, OutOfSteps, OutOfRoom}
use Rattle.rules.specs.Passes.{System, Outcome, outcome, seven, no_root}
use Rattle.orders.specs.Modes.{Judged, round, needless, fresh, Mode}

-- It is over after the pass number n. Or in the pass number n the production p is tried over the combination c, and where the run goes on,
-- what is stored then says how.
pub data Plan (Store : Type 0) : Type 0 where
  end : ℕ → Plan Store
  next : ℕ → ℕ → List ℕ → (Store → Plan Store) → Plan Store

-- an answer with the root's seven slots, what is stored, the closures made and the passes begun
pub record End (Store : Type 0) : Type 0 where
  pub answer : Answer
  pub root : List ℕ
  pub store : Store
  pub made : ℕ
  pub begun : ℕ

module _ {Store : Type 0} where
  abbrev pub ends : Answer → List ℕ → Store → ℕ → ℕ → End Store
  ends a root s m n = record { answer = a; root = root; store = s; made = m; begun = n }

  -- the six steps by what they ask: L closures have been made; what the closure shows; R entries are stored
  unfoldable pub tried : Bool → Judged Store → Bool → ℕ → ℕ → List ℕ → Store → ℕ → (Store → ℕ → End Store) → End Store
  tried true j full n p c s m more = ends OutOfSteps no_root s m n
  tried false round full n p c s m more = ends (Circular p) (seven c) s (suc m) n
  tried false needless full n p c s m more = more s (suc m)
  tried false (fresh t) true n p c s m more = ends OutOfRoom no_root s (suc m) n
  tried false (fresh t) false n p c s m more = more t (suc m)

module _ {W : System} (M : Mode W) where
  -- with m closures made
  unfoldable pub run : ℕ → ℕ → Plan M.Store → M.Store → ℕ → End M.Store
  run L R (end n) s m = ends Noncircular no_root s m n
  run L R (next n p c f) s m =
      tried (leb L m) (M.judge p c s) (leb R (length (M.entries s))) n p c s m (λ t k. run L R (f t) t k)

  abbrev pub outcome_of : End M.Store → Outcome
  outcome_of e = outcome e.answer e.root (record { entries = M.entries e.store; made = e.made }) e.begun

-- ---- the tries of one turn, and then f
module _ {Store : Type 0} where
  unfoldable pub tries_plan : ℕ → ℕ → List (List ℕ) → (Store → Plan Store) → Store → Plan Store
  tries_plan n p [] f s = f s
  tries_plan n p (c ∷ cs) f s = next n p c (tries_plan n p cs f)
