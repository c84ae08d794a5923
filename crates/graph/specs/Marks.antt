-- The mark of a link of a compound graph: an edge of the production, or a pair of a subtree. The node to which the link leads tells which: an
-- edge leads only where the rules of the table allow an edge to lead, and a pair to a synthesized attribute of a right symbol, where they do
-- not. Over the number w of attributes. Assumes nothing.
use Rattle.std.specs.Prelude.{Bool, true, false, ◌↔◌, ◌≡◌, ℕ, suc, ◌+◌, ◌*◌, ◌/◌, ◌%◌, ◌<◌, length, get_or}
use mathlib.Core.List.{List, [], ◌∷◌, ◌++◌, map, Memᴰ}
use Rattle.numbers.specs.Number.{bit}
use Rattle.numbers.specs.Lists.{up_from}
use Rattle.grammar.specs.declared.Production.{Production}
use Rattle.grammar.specs.declared.Edge.{Edge}
use Rattle.grammar.specs.Grammar.{Grammar, symbol, symbol_at}
use Rattle.grammar.specs.Rules.{Allowed}
use Rattle.grammar.specs.Refusal.{allowed}
use Rattle.graph.specs.Compound.{OwnEdge, SubtreePair}

-- for each occurrence the mask of its symbol, which says what attributes are inherited
abbrev pub masks_of : Grammar → Production → List ℕ
masks_of g p = map (λ o. (symbol g (symbol_at p o)).mask) (up_from 0 (suc p.n))

-- a link to node j is an edge
unfoldable pub edge_into : ℕ → List ℕ → ℕ → Bool
edge_into w masks j = allowed (j / w) (bit (j % w) (get_or masks (j / w) 0))

-- an edge is marked 1, a pair 0
abbrev pub mark_of : Bool → ℕ
mark_of true = 1
mark_of false = 0

-- the mark of a link to node j
abbrev pub mark_into : ℕ → List ℕ → ℕ → ℕ
mark_into w masks j = mark_of (edge_into w masks j)

-- the nodes to which the links of a path c to y lead, and the marks of these links
abbrev pub targets_of : List ℕ → ℕ → List ℕ
targets_of [] y = []
targets_of (x ∷ xs) y = xs ++ y ∷ []

abbrev pub marks_of : ℕ → List ℕ → List ℕ → ℕ → List ℕ
marks_of w masks c y = map (mark_into w masks) (targets_of c y)

-- ---- what the marks say

-- the link from i to j is what its mark says, and nothing else
pub record Marked (w : ℕ) (edges : List Edge) (graphs : List ℕ) (mark i j : ℕ) : Type 0 where
  pub edge : (mark ≡ 1) ↔ OwnEdge w edges i j
  pub pair : (mark ≡ 0) ↔ SubtreePair w 1 graphs i j

-- each link of a path c to y is what the mark at its place says
abbrev pub AllMarked : ℕ → List Edge → List ℕ → List ℕ → ℕ → List ℕ → Type 0
AllMarked w edges graphs c y marks =
    (i : ℕ) → i < length c → Marked w edges graphs (get_or marks i 0) (get_or c i 0) (get_or (targets_of c y) i 0)

-- ---- what is asked of edges and graphs for it

-- each edge leads where the rules allow it
abbrev pub AllAllowed : List Edge → List ℕ → Type 0
AllAllowed edges masks =
    (e : Edge) → Memᴰ e edges → Allowed e.target.occurrence (bit e.target.attribute (get_or masks e.target.occurrence 0))

-- the pairs of a graph end in synthesized attributes of a symbol that has the mask
abbrev pub EndsUp : ℕ → ℕ → ℕ → Type 0
EndsUp w mask graph = (a b : ℕ) → a < w → b < w → bit (w * a + b) graph ≡ 1 → bit b mask ≡ 0

-- those of each subtree's graph, at its occurrence
abbrev pub KidsEndUp : ℕ → List ℕ → List ℕ → Type 0
KidsEndUp w masks graphs = (k : ℕ) → k < length graphs → EndsUp w (get_or masks (suc k) 0) (get_or graphs k 0)
