-- The circle in a report, from the bytes of a table: of the root's compound graph a shortest circle and the least of these, what each of its
-- links is, and that no evaluator computes the values on it in the shown tree. Assumes nothing.
use Rattle.std.specs.Prelude.{false, ◌↔◌, ◌≡◌, ℕ, ◌≤◌, ◌<◌, length, get_or, take}
use mathlib.Core.List.{List, Memᴰ}
use Rattle.numbers.specs.Lists.{Below}
use Rattle.grammar.specs.Grammar.{edges_of}
use Rattle.grammar.specs.Table.{width_of, grammar_of}
use Rattle.graph.specs.declared.Trail.{Trail}
use Rattle.graph.specs.Compound.{OwnEdge, SubtreePair}
use Rattle.graph.specs.Parts.{most_nodes}
use Rattle.graph.specs.Paths.{IsCircle, FromSmallest}
use Rattle.graph.specs.Marks.{targets_of}
use Rattle.graph.specs.Trails.{filled_up, no_trail}
use Rattle.trees.specs.Tree.{Tree, Instance, value_at}
use Rattle.trees.specs.Evaluator.{Computed, Reached}
use Rattle.rules.specs.declared.Answer.TheVariants.{Circular}
use Rattle.rules.specs.Passes.{Outcome, graphs}
use Rattle.rules.specs.Test.{root_rows, report_with}
use Rattle.verdict.specs.Demands.{Version, back, said, OnCircle, root_kids, shown_tree, ValueOf}

-- ---- what a caller reads: as many places as there are links

abbrev pub nodes_said : Outcome → List ℕ
nodes_said o = take o.report.circle.len o.report.circle.nodes

-- the link that leaves a node leads to the next, and from the last to the first
abbrev pub targets_said : Outcome → List ℕ
targets_said o = targets_of (nodes_said o) (get_or (nodes_said o) 0 0)

-- what that link is
abbrev pub marks_said : Outcome → List ℕ
marks_said o = take o.report.circle.len o.report.circle.marks

-- ---- the compound graph of a root with the production p, whose nodes are numbered 8 times occurrence plus attribute
module _ (bs : List ℕ) (p : ℕ) (o : Outcome) where
  abbrev pub IsRootCircle : List ℕ → Type 0
  IsRootCircle = IsCircle (root_rows (width_of bs) (grammar_of bs) o.entries p o.report.root)

  -- an edge of the production leads from node i to node j
  abbrev pub RootEdge : ℕ → ℕ → Type 0
  RootEdge = OwnEdge (width_of bs) (edges_of (grammar_of bs) p)

  -- a pair of a subtree does, at that subtree's occurrence
  abbrev pub KidPair : ℕ → ℕ → Type 0
  KidPair = SubtreePair (width_of bs) 1 (graphs o.entries (root_kids bs o p))

  -- no link is both
  abbrev pub NeverBoth : Type 0
  NeverBoth = (i j : ℕ) → RootEdge i j → ¬ KidPair i j

  -- what is said of it
  pub record LeastCircleSaid : Type 0 where
    -- a circle, and none is shorter
    pub circle : IsRootCircle (nodes_said o)
    pub shortest : (c : List ℕ) → IsRootCircle c → length (nodes_said o) ≤ length c
    -- written from its smallest node, and none of the same length that is so written is less
    pub smallest : FromSmallest (nodes_said o)
    pub least : (c : List ℕ) → IsRootCircle c → FromSmallest c → length c ≡ length (nodes_said o) → ¬ Below c (nodes_said o)
    -- each link is marked 1 exactly if it is an edge, and 0 exactly if it is a pair
    pub edges :
        (i : ℕ) → i < length (nodes_said o)
        → (get_or (marks_said o) i 0 ≡ 1) ↔ RootEdge (get_or (nodes_said o) i 0) (get_or (targets_said o) i 0)
    pub pairs :
        (i : ℕ) → i < length (nodes_said o)
        → (get_or (marks_said o) i 0 ≡ 0) ↔ KidPair (get_or (nodes_said o) i 0) (get_or (targets_said o) i 0)
    -- the places beyond are 0
    pub beyond :
        o.report.circle
        ≡ record {
          nodes = filled_up most_nodes (nodes_said o);
          marks = filled_up most_nodes (marks_said o);
          len = length (nodes_said o);
        }

-- after circular that of the root; with every other answer there is none
pub record CircleSaid (bs : List ℕ) (o : Outcome) : Type 0 where
  pub circular : (p : ℕ) → said o ≡ Circular p → LeastCircleSaid bs p o
  pub else : ((p : ℕ) → ¬ (said o ≡ Circular p)) → o.report.circle ≡ no_trail

abbrev pub CircleSaidAlways : Version → Type 0
CircleSaidAlways v = (bs : List ℕ) (limit room : ℕ) → CircleSaid bs (v bs limit room)

abbrev pub NeverBothAlways : Version → Type 0
NeverBothAlways v = (bs : List ℕ) (limit room p : ℕ) → said (v bs limit room) ≡ Circular p → NeverBoth bs p (v bs limit room)

-- the outcome with the circle t in its report
abbrev pub with_circle : Trail → Outcome → Outcome
with_circle t o =
    record { report = report_with t o.report; entries = o.entries }

-- no other circle could be said of what comes back
abbrev pub OnlyCircle : Type 0
OnlyCircle =
    (bs : List ℕ) (limit room : ℕ) (t : Trail) → CircleSaid bs (with_circle t (back bs limit room)) → t ≡ (back bs limit room).report.circle

-- ---- evaluators

-- The value of node n in the tree t, an attribute of its root or of the root of a subtree: it lies on a circle, and no evaluator, in whatever
-- order it takes, ever computes it.
pub record NodeWaits (bs : List ℕ) (t : Tree) (n : ℕ) : Type 0 where
  pub value : ValueOf bs t (value_at (width_of bs) n)
  pub circle : OnCircle bs t (value_at (width_of bs) n)
  pub never : {k : ℕ} {d : Computed Instance} → Reached (grammar_of bs) t k d → d (value_at (width_of bs) n) ≡ false

-- after circular: each node of the circle, in the shown tree
abbrev pub CircleWaits : List ℕ → ℕ → Outcome → Type 0
CircleWaits bs p o = (n : ℕ) → Memᴰ n (nodes_said o) → NodeWaits bs (shown_tree bs o p) n

abbrev pub CircleWaitsAlways : Version → Type 0
CircleWaitsAlways v = (bs : List ℕ) (limit room p : ℕ) → said (v bs limit room) ≡ Circular p → CircleWaits bs p (v bs limit room)
