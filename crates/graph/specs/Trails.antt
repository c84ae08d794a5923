-- What is handed over of a path or a circle that is found. Assumes nothing.
use Rattle.std.specs.Prelude.{List, ◌++◌, ℕ, ◌-◌, length, get_or, replicate}
use Rattle.graph.specs.declared.Trail.{Trail}
use Rattle.graph.specs.Parts.{most_nodes}
use Rattle.graph.specs.Marks.{marks_of}

-- nodes, marks and how many they are, as one
abbrev pub trail : List ℕ → List ℕ → ℕ → Trail
trail nodes marks len = record { nodes = nodes; marks = marks; len = len }

-- n places: the numbers at the front, the others 0
abbrev pub filled_up : ℕ → List ℕ → List ℕ
filled_up n xs = xs ++ replicate (n - length xs) 0

-- of a path c to y
unfoldable pub trail_of : ℕ → List ℕ → List ℕ → ℕ → Trail
trail_of w masks c y = trail (filled_up most_nodes c) (filled_up most_nodes (marks_of w masks c y)) (length c)

-- of a circle, whose last link leads to its first node
abbrev pub circle_trail : ℕ → List ℕ → List ℕ → Trail
circle_trail w masks c = trail_of w masks c (get_or c 0 0)

-- where there is none
abbrev pub no_trail : Trail
no_trail = trail (replicate most_nodes 0) (replicate most_nodes 0) 0
