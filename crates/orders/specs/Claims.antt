-- What is shown of passes, over any system W, any list of productions ps, any closure limit L and any room R. Assumes nothing.
use Rattle.std.specs.Prelude.{◌≡◌, List, ℕ, ◌<◌, ◌≤◌, length}
use Rattle.rules.specs.declared.Answer.TheVariants.{OutOfRoom}
use Rattle.rules.specs.Passes.{System, State, pass, Outcome, empty, passes_from, passes}
use Rattle.orders.specs.Stored.{In}
use Rattle.orders.specs.Answers.{Sound, Verdict, StepsCompared, RoomCompared, OneStored, comes_to, Passed}

-- passes of any kind, for a system, a limit, a room and a list of productions
abbrev pub Passes : Type 0
Passes = System → ℕ → ℕ → List ℕ → Outcome

module _ (run : Passes) where
  -- every entry is made by its production over earlier ones, no two are alike, limit and room are kept, and the answer says what it should
  abbrev pub OutcomeSound : Type 0
  OutcomeSound = (W : System) (ps : List ℕ) (L R : ℕ) → Sound W (In ps) L R (run W L R ps)

  -- ---- two limits, two rooms
  -- out of steps at L comes exactly if with a greater limit the passes make more than L closures; else the outcome is the same
  abbrev pub StepsDecide : Type 0
  StepsDecide = (W : System) (ps : List ℕ) (L M R : ℕ) → L < M → StepsCompared L (run W L R ps) (run W M R ps)

  -- Out of room at R comes exactly if with more room the passes store more than R entries; else the outcome is the same. The limit with more
  -- room may be the same, or no more than the closures made, or any between.
  abbrev pub RoomDecides : Type 0
  RoomDecides =
      (W : System) (ps : List ℕ) (L R S l : ℕ) → R < S → (run W L R ps).report.closures ≤ l → l ≤ L
      → RoomCompared R (run W L R ps) (run W l S ps)

  -- until then nothing is different: the last closure is that which stores the entry for which there was no room
  abbrev pub OneMore : Type 0
  OneMore =
      (W : System) (ps : List ℕ) (L R S : ℕ) → R < S → (run W L R ps).report.answer ≡ OutOfRoom
      → OneStored (run W L R ps) (run W (run W L R ps).report.closures S ps)

  -- a verdict comes back for every limit and room that are no less than the closures made and the entries stored
  abbrev pub VerdictStands : Type 0
  VerdictStands =
      (W : System) (ps : List ℕ) (L R M S : ℕ) → Verdict (run W L R ps).report.answer
      → (run W L R ps).report.closures ≤ M → length (run W L R ps).entries ≤ S → run W M S ps ≡ run W L R ps

  abbrev pub MoreRoom : Type 0
  MoreRoom =
      (W : System) (ps : List ℕ) (L R M S : ℕ) → L ≤ M → R ≤ S → Verdict (run W L R ps).report.answer
      → run W M S ps ≡ run W L R ps

-- ---- the passes as they stand in `Passes`
-- any turns, from any state: what is stored stays
abbrev pub TurnsStay : Type 0
TurnsStay =
    (W : System) (ps : List ℕ) (L R : ℕ) (s : State) → s.made ≤ L → length s.entries ≤ R
    → Passed L R s (comes_to (pass W L R ps s))

-- the passes never end because their fuel is used up: more of it changes nothing
abbrev pub FuelSuffices : Type 0
FuelSuffices = (W : System) (ps : List ℕ) (L R fuel : ℕ) → R < fuel → passes_from W L R fuel ps 0 empty ≡ passes W L R ps
