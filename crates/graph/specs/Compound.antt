-- Where an edge of a compound graph comes from, in words. Assumes nothing.
use mathlib.Core.List.{List, Memᴰ}
use Rattle.std.specs.Prelude.{◌⊎◌, ◌≡◌, ℕ, ◌+◌, ◌*◌, ◌≤◌, ◌<◌, length, get_or}
use Rattle.numbers.specs.Number.{bit}
use Rattle.grammar.specs.declared.Node.{Node}
use Rattle.grammar.specs.declared.Edge.{Edge}
use Rattle.graph.specs.Rows.{node}

-- one of the w attributes of the left symbol, or of one of n right symbols
pub record Within (w n : ℕ) (x : Node) : Type 0 where
  pub occurrence : x.occurrence ≤ n
  pub attribute : x.attribute < w

abbrev pub EdgesWithin : ℕ → ℕ → List Edge → Type 0
EdgesWithin w n edges = (e : Edge) → Memᴰ e edges → Within w n e.source × Within w n e.target

-- one of the edges leads from node i to node j
pub record OwnEdge (w : ℕ) (edges : List Edge) (i j : ℕ) : Type 0 where
  pub edge : Edge
  pub given : Memᴰ edge edges
  pub from : i ≡ node w edge.source
  pub to : j ≡ node w edge.target

-- i and j are attributes a and b of the occurrence o, and (a, b) is a pair of the graph, with a below c
pub record PairTo (w c o graph i j : ℕ) : Type 0 where
  pub a : ℕ
  pub b : ℕ
  pub a_lt : a < c
  pub b_lt : b < w
  pub from : i ≡ w * o + a
  pub to : j ≡ w * o + b
  pub there : bit (w * a + b) graph ≡ 1

abbrev pub Pair : ℕ → ℕ → ℕ → ℕ → ℕ → Type 0
Pair w o graph i j = PairTo w w o graph i j

-- a pair of one of the graphs leads from node i to node j; the first graph stands at the occurrence o
pub record SubtreePair (w o : ℕ) (graphs : List ℕ) (i j : ℕ) : Type 0 where
  pub k : ℕ
  pub given : k < length graphs
  pub pair : Pair w (o + k) (get_or graphs k 0) i j

-- an edge of the compound graph: one of the production's own, or a subtree's pair at that subtree's occurrence
abbrev pub CompoundEdge : ℕ → List Edge → List ℕ → ℕ → ℕ → Type 0
CompoundEdge w edges graphs i j = OwnEdge w edges i j ⊎ SubtreePair w 1 graphs i j
