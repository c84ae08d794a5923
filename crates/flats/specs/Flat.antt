-- What the check says as two numbers, a path or a circle as 129, a report as 141. Assumes nothing.
use Rattle.std.specs.Prelude.{List, [], ◌∷◌, ◌++◌, ◌≡◌, ℕ, suc, ◌+◌, ◌*◌, length, get_or, take, drop, Ok, Err}
use Rattle.grammar.specs.Refusal.{Checked}
use Rattle.grammar.specs.declared.Broken.TheVariants.{Rule, Record}
use Rattle.graph.specs.declared.Trail.{Trail}
use Rattle.graph.specs.Parts.{most_nodes}
use Rattle.rules.specs.declared.Report.{Report}
use Rattle.rules.specs.Passes.{number_of, no_value, value_of}

-- the number of the rule that is broken, 0 where none is, and the first bad record
abbrev pub flat_check : Checked → List ℕ
flat_check (Ok u) = 0 ∷ no_value ∷ []
flat_check (Err (Rule k)) = k ∷ no_value ∷ []
flat_check (Err (Record k i)) = k ∷ i ∷ []

-- how many nodes there are, the nodes, and the marks of the links that leave them, both in 64 places
abbrev pub flat_trail : Trail → List ℕ
flat_trail t = t.len ∷ t.nodes ++ t.marks

abbrev pub trail_numbers : ℕ
trail_numbers = 1 + 2 * most_nodes

-- after x the first i nodes, and behind all places for nodes the first i marks
pub record Begun (ns ms : List ℕ) (x i : ℕ) (out : List ℕ) : Type 0 where
  pub long : length out ≡ trail_numbers
  pub nodes : take (suc i) out ≡ x ∷ take i ns
  pub marks : take i (drop (1 + most_nodes) out) ≡ take i ms

-- the answer's number and its value (the root's production, or the first bad record), closures, entries and passes, the root's seven entry
-- numbers, and the circle
abbrev pub flat : Report → List ℕ
flat r =
    number_of r.answer
    ∷ value_of r.answer
    ∷ r.closures
    ∷ r.entries
    ∷ r.passes
    ∷ get_or r.root 0 0
    ∷ get_or r.root 1 0
    ∷ get_or r.root 2 0
    ∷ get_or r.root 3 0
    ∷ get_or r.root 4 0
    ∷ get_or r.root 5 0
    ∷ get_or r.root 6 0
    ∷ flat_trail r.circle

abbrev pub report_numbers : ℕ
report_numbers = 12 + trail_numbers
