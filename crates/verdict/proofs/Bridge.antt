-- What the closure of a production's compound graph says is so in the trees: the circle test finds a circle exactly if there is one, and
-- the root's number is the graph that the production makes. Over the number w of attributes. Assumes nothing.
use mathlib.Core.Path.{◌≡◌}
use mathlib.Core.Bool.{true}
use mathlib.Core.List.{List}
use mathlib.Core.Logic.{◌↔◌}
use Prim.Native.Nat.{ℕ}
use lib.ListN.{length}
use Rattle.numbers.specs.Paths.{Circle}
use Rattle.grammar.specs.Grammar.{Grammar, production, edges_of}
use Rattle.graph.proofs.Compound.{compound_circle, compound_root}
use Rattle.trees.specs.Tree.{WellFormed, AtMost}
use Rattle.trees.specs.Compound.{OverGraphs, Makes, NumberHolds}
use Rattle.trees.proofs.Numbers.{numbered_circles, numbered_makes}
use Rattle.trees.proofs.EndsUp.{within}
use Rattle.rules.specs.Test.{system_of}

module _ (w : ℕ) (g : Grammar) (formed : WellFormed g) (few : AtMost w g) (p : ℕ) (graphs : List ℕ)
    (count : length graphs ≡ (production g p).n) where
  -- the circle test finds a circle exactly if the compound graph has one
  pub circle_so : ((system_of w g).circle p graphs ≡ true) ↔ Circle (OverGraphs g (NumberHolds w) p graphs)
  unfolding system_of
  circle_so =
      let c = compound_circle w (edges_of g p) graphs (within w g formed few p graphs count) in
      let n = numbered_circles w g formed few p graphs in
      (λ h. n.1 (c.0 h), λ h. c.1 (n.0 h))

  -- the root's number is what the production makes of the graphs
  pub graph_so : Makes g (NumberHolds w) p graphs ((system_of w g).graph p graphs)
  unfolding system_of
  graph_so =
      numbered_makes w g formed few p graphs ((system_of w g).graph p graphs)
      (compound_root w (edges_of g p) graphs (within w g formed few p graphs count))
