-- What an outcome of the passes says, and how two outcomes compare. Assumes nothing.
use Rattle.std.specs.Prelude.{◌≡◌, ◌↔◌, List, [], ◌∷◌, ◌++◌, ℕ, ◌<◌, ◌≤◌, length}
use Rattle.rules.specs.declared.Answer.{Answer}
use Rattle.rules.specs.declared.Answer.TheVariants.{Noncircular, Circular, Refused, OutOfSteps, OutOfRoom}
use Rattle.rules.specs.declared.Entry.{Entry}
use Rattle.rules.specs.Passes.{System, State, Ran, going, stopped, Outcome, entry, no_root}
use Rattle.orders.specs.Stored.{Made, Root, Different, PairStored, AllMade}

-- ---- one outcome, for the limit L and the room R
-- out of room: one entry more is made of these, and its pair is not stored
pub record Surplus (W : System) (Part : ℕ → Type 0) (es : List Entry) : Type 0 where
  pub extra : Entry
  pub made : Made W Part es (length es) extra
  pub new : PairStored es extra.symbol extra.graph → ⊥

-- what each answer says
abbrev pub Says : System → (ℕ → Type 0) → ℕ → ℕ → Outcome → Answer → Type 0
Says W Part L R o Noncircular = AllMade W Part o.entries × (o.report.root ≡ no_root)
Says W Part L R o (Circular p) = Root W Part o.entries p o.report.root
Says W Part L R o (Refused k) = ⊥
Says W Part L R o OutOfSteps = (o.report.closures ≡ L) × (o.report.root ≡ no_root)
Says W Part L R o OutOfRoom = (length o.entries ≡ R) × Surplus W Part o.entries × (o.report.root ≡ no_root)

pub record Sound (W : System) (Part : ℕ → Type 0) (L R : ℕ) (o : Outcome) : Type 0 where
  pub made : (k : ℕ) → k < length o.entries → Made W Part o.entries k (entry o.entries k)
  pub different : Different o.entries
  pub counted : o.report.entries ≡ length o.entries
  pub entries : length o.entries ≤ R
  pub closures : o.report.closures ≤ L
  pub says : Says W Part L R o o.report.answer

-- noncircular or circular
abbrev pub Verdict : Answer → Type 0
Verdict Noncircular = Unit {0}
Verdict (Circular p) = Unit {0}
Verdict (Refused k) = ⊥
Verdict OutOfSteps = ⊥
Verdict OutOfRoom = ⊥

-- ---- two outcomes
-- what is stored stays
abbrev pub Extends : Outcome → Outcome → Type 0
Extends o o' = (more : List Entry) × (o'.entries ≡ o.entries ++ more)

-- o is for the limit L, and o' for a greater one
pub record StepsCompared (L : ℕ) (o o' : Outcome) : Type 0 where
  pub exactly : (o.report.answer ≡ OutOfSteps) ↔ (L < o'.report.closures)
  pub else : (o.report.answer ≡ OutOfSteps → ⊥) → o' ≡ o
  pub stays : Extends o o'

-- o is for the room R, and o' for more room
pub record RoomCompared (R : ℕ) (o o' : Outcome) : Type 0 where
  pub exactly : (o.report.answer ≡ OutOfRoom) ↔ (R < length o'.entries)
  pub else : (o.report.answer ≡ OutOfRoom → ⊥) → o' ≡ o
  pub stays : Extends o o'

-- o is out of room, and o' is for more room and the closures that o made
pub record OneStored (o o' : Outcome) : Type 0 where
  pub next : Entry
  pub entries : o'.entries ≡ o.entries ++ (next ∷ [])
  pub closures : o'.report.closures ≡ o.report.closures

-- ---- turns, from any state
abbrev pub comes_to : Ran → State
comes_to (going s) = s
comes_to (stopped a root s) = s

-- from s to t
pub record Passed (L R : ℕ) (s t : State) : Type 0 where
  pub stays : (more : List Entry) × (t.entries ≡ s.entries ++ more)
  pub counts : s.made ≤ t.made
  pub closures : t.made ≤ L
  pub entries : length t.entries ≤ R
