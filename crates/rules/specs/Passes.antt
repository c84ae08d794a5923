-- The passes over the productions of a grammar. Assumes nothing.
use Rattle.std.specs.Prelude.{Bool, true, false, ◌||◌, cond, List, [], ◌∷◌, ◌++◌, map, ℕ, zero, suc, ◌-◌, leb, eqb, length, get_or, take, replicate}
use Rattle.numbers.specs.Lists.{both, up_from, keep}
use Rattle.grammar.specs.declared.Broken.TheVariants.{Rule, Record}
use Rattle.graph.specs.Trails.{no_trail}
use Rattle.rules.specs.declared.Answer.{Answer}
use Rattle.rules.specs.declared.Answer.TheVariants.{Noncircular, Circular, Refused, OutOfSteps, OutOfRoom}
use Rattle.rules.specs.declared.Report.{Report}
use Rattle.rules.specs.declared.Entry.{Entry}

-- What the passes ask of a grammar. Over given subtree graphs a production has one compound graph: `graph` is the graph of the root
-- that its closure gives, `circle` says whether it has a circle.
pub record System : Type 0 where
  pub left : ℕ → ℕ
  pub rights : ℕ → List ℕ
  pub graph : ℕ → List ℕ → ℕ
  pub circle : ℕ → List ℕ → Bool

-- what is stored, and how many closures have been made
pub record State : Type 0 where
  pub entries : List Entry
  pub made : ℕ

-- the passes go on, or have stopped with an answer and the root's seven entry numbers
pub data Ran : Type 0 where
  going : State → Ran
  stopped : Answer → List ℕ → State → Ran

-- the next thing is done where the passes go on
abbrev pub and_then : Ran → (State → Ran) → Ran
and_then (going s) next = next s
and_then (stopped a root s) next = stopped a root s

-- ---- the answer's numbers

-- the rules' number as a case of the answer
unfoldable pub numbered : ℕ → Answer
numbered k = cond (eqb k 8) OutOfSteps (cond (eqb k 9) OutOfRoom (Refused (Rule k)))

-- each case's number. The rules number no verdict: 0 stands for noncircular, and 255 for circular, clear of every refusal
abbrev pub number_of : Answer → ℕ
number_of Noncircular = 0
number_of (Circular p) = 255
number_of (Refused (Rule k)) = k
number_of (Refused (Record k i)) = k
number_of OutOfSteps = 8
number_of OutOfRoom = 9

-- where a case has no value: no production and no record has this number, so none can be taken for one
abbrev pub no_value : ℕ
no_value = 4294967295

-- each case's value: the root's production, or the first bad record
abbrev pub value_of : Answer → ℕ
value_of Noncircular = no_value
value_of (Circular p) = p
value_of (Refused (Rule k)) = no_value
value_of (Refused (Record k i)) = i
value_of OutOfSteps = no_value
value_of OutOfRoom = no_value

-- seven slots, the unused ones 0
unfoldable pub seven : List ℕ → List ℕ
seven xs = xs ++ replicate (7 - length xs) 0

-- of seven slots those that count, one for each of the right symbols
abbrev pub counting : List ℕ → List ℕ → List ℕ
counting rights slots = take (length rights) slots

abbrev pub no_root : List ℕ
no_root = replicate 7 0

-- ---- candidates and combinations

abbrev pub no_entry : Entry
no_entry = record { symbol = 0; graph = 0; production = 0; kids = replicate 7 0 }

abbrev pub entry : List Entry → ℕ → Entry
entry es i = get_or es i no_entry

-- the candidates for a right symbol are the entries of that symbol
unfoldable pub candidates : List Entry → ℕ → List ℕ
candidates es s = keep (λ i. eqb (entry es i).symbol s) (up_from 0 (length es))

-- each of the numbers xs before each of the combinations of the rest, the last right symbol changing fastest
unfoldable pub prefixed : List ℕ → List (List ℕ) → List (List ℕ)
prefixed [] rest = []
prefixed (x ∷ xs) rest = map (λ c. x ∷ c) rest ++ prefixed xs rest

-- all combinations, in ascending order; none where a right symbol has no candidate, and one, empty, where there is no right symbol
unfoldable pub combinations : List (List ℕ) → List (List ℕ)
combinations [] = [] ∷ []
combinations (xs ∷ rest) = prefixed xs (combinations rest)

-- ---- the six steps

-- step 4 goes on where a stored graph is the same as the new one
abbrev pub same : ℕ → ℕ → Bool
same stored new = eqb stored new

unfoldable pub known : ℕ → ℕ → List Entry → Bool
known s graph [] = false
known s graph (e ∷ es) = both (eqb e.symbol s) (same e.graph graph) || known s graph es

-- out with an answer, the root's seven slots and a state where the test passes, else the rest
unfoldable pub stop_if : Bool → Answer → List ℕ → State → Ran → Ran
stop_if true a root s rest = stopped a root s
stop_if false a root s rest = rest

-- go on where the test passes, else the rest
unfoldable pub go_on_if : Bool → State → Ran → Ran
go_on_if true s rest = going s
go_on_if false s rest = rest

abbrev pub counted : State → State
counted s = record { entries = s.entries; made = suc s.made }

abbrev pub stored : Entry → State → State
stored e s = record { entries = s.entries ++ (e ∷ []); made = s.made }

abbrev pub graphs : List Entry → List ℕ → List ℕ
graphs es combo = map (λ i. (entry es i).graph) combo

module _ (W : System) (limit room : ℕ) where
  -- one combination, step by step as they are numbered
  unfoldable pub try : ℕ → List ℕ → State → Ran
  try p combo s =
      let gs = graphs s.entries combo in
      let new : Entry = record { symbol = W.left p; graph = W.graph p gs; production = p; kids = seven combo } in
      -- 1. if L closures have been made: out of steps
      stop_if (leb limit s.made) (numbered 8) no_root s
      -- 2. make the closure and count it
      (let t = counted s in
      -- 3. if the compound graph has a circle: circular
      stop_if (W.circle p gs) (Circular p) (seven combo) t
      -- 4. if the same symbol with the same graph is stored: go on
      (go_on_if (known (W.left p) (W.graph p gs) t.entries) t
      -- 5. if R entries are stored: out of room
      (stop_if (leb room (length t.entries)) (numbered 9) no_root t
      -- 6. store the entry
      (going (stored new t)))))

  unfoldable pub tries : ℕ → List (List ℕ) → State → Ran
  tries p [] s = going s
  tries p (combo ∷ combos) s = and_then (try p combo s) (tries p combos)

  -- ---- a turn, a pass, the passes

  -- the candidates are the entries stored when the turn begins
  unfoldable pub turn : ℕ → State → Ran
  turn p s = tries p (combinations (map (candidates s.entries) (W.rights p))) s

  -- one pass over the productions ps
  unfoldable pub pass : List ℕ → State → Ran
  pass [] s = going s
  pass (p ∷ ps) s = and_then (turn p s) (pass ps)

-- what comes back: the report, and the stored entries
pub record Outcome : Type 0 where
  pub report : Report
  pub entries : List Entry

-- no circle is said yet
abbrev pub outcome : Answer → List ℕ → State → ℕ → Outcome
outcome a root s begun =
    record {
      report =
          record { answer = a; closures = s.made; entries = length s.entries; passes = begun; root = root; circle = no_trail };
      entries = s.entries;
    }

-- after the pass number `begun`, which began in the state `old`: noncircular where it stored nothing, else more passes
abbrev pub after : State → ℕ → Ran → (State → Outcome) → Outcome
after old begun (stopped a root s) more = outcome a root s begun
after old begun (going s) more =
    cond (eqb (length s.entries) (length old.entries)) (outcome Noncircular no_root s begun) (more s)

-- where the passes would not end by themselves: no rule has the number 0, so no table is refused by it, and this is no answer of any
abbrev pub unended : Answer
unended = Refused (Rule 0)

abbrev pub empty : State
empty = record { entries = []; made = 0 }

module _ (W : System) (limit room : ℕ) where
  -- `fuel` more passes over ps at the most, where `begun` have begun
  unfoldable pub passes_from : ℕ → List ℕ → ℕ → State → Outcome
  passes_from zero ps begun s = outcome unended no_root s begun
  passes_from (suc fuel) ps begun s = after s (suc begun) (pass W limit room ps s) (passes_from fuel ps (suc begun))

  -- each pass but the last stores an entry, so one pass more than the room is enough
  unfoldable pub passes : List ℕ → Outcome
  passes ps = passes_from (suc room) ps 0 empty
