-- That what is printed of an outcome tells the outcome. Assumes nothing.
use Rattle.std.specs.Prelude.{◌≡◌, Bool, List, map, ℕ, ◌<◌, length, take}
use Rattle.graph.specs.declared.Trail.{Trail}
use Rattle.graph.specs.Parts.{most_nodes}
use Rattle.graph.specs.Marks.{mark_of}
use Rattle.graph.specs.Trails.{filled_up, no_trail}
use Rattle.rules.specs.declared.Answer.{Answer}
use Rattle.rules.specs.declared.Answer.TheVariants.{Noncircular, Circular, Refused, OutOfSteps, OutOfRoom}
use Rattle.rules.specs.Passes.{Outcome, outcome, entry, seven, no_root, empty}
use Rattle.texts.specs.Lines.{printed}

-- of seven slots the first n count, and the others are 0
abbrev pub OthersZero : ℕ → List ℕ → Type 0
OthersZero n slots = slots ≡ seven (take n slots)

-- the root is 0 unless a root line is printed, and after a refusal all but its number is
abbrev pub RootZero : (ℕ → ℕ) → Outcome → Answer → Type 0
RootZero n o Noncircular = o.report.root ≡ no_root
RootZero n o (Circular p) = OthersZero (n p) o.report.root
RootZero n o (Refused k) = o ≡ outcome (Refused k) no_root empty 0
RootZero n o OutOfSteps = o.report.root ≡ no_root
RootZero n o OutOfRoom = o.report.root ≡ no_root

-- of a trail as many marks as nodes count, each an edge's or a pair's, and the others are 0
pub record BeyondZero (t : Trail) : Type 0 where
  pub nodes : List ℕ
  pub edges : List Bool
  pub as_many : length edges ≡ length nodes
  pub is : t ≡ record { nodes = filled_up most_nodes nodes; marks = filled_up most_nodes (map mark_of edges); len = length nodes }

-- there is no circle unless its line is printed
abbrev pub CircleZero : Trail → Answer → Type 0
CircleZero t Noncircular = t ≡ no_trail
CircleZero t (Circular p) = BeyondZero t
CircleZero t (Refused k) = t ≡ no_trail
CircleZero t OutOfSteps = t ≡ no_trail
CircleZero t OutOfRoom = t ≡ no_trail

-- what is not printed is 0; `n` says how many right symbols a production has
pub record UnprintedZero (n : ℕ → ℕ) (o : Outcome) : Type 0 where
  pub kids : (k : ℕ) → k < length o.entries → OthersZero (n (entry o.entries k).production) (entry o.entries k).kids
  pub root : RootZero n o o.report.answer
  pub circle : CircleZero o.report.circle o.report.answer

-- no two such outcomes print the same, though their productions may have other counts of right symbols
abbrev pub PrintedTells : Type 0
PrintedTells =
    (n n' : ℕ → ℕ) (o o' : Outcome) → UnprintedZero n o → UnprintedZero n' o' → printed n o ≡ printed n' o' → o ≡ o'
