-- The compound graph of a production over given graphs of its subtrees, and the graph of the root that it makes. Assumes nothing.
use Rattle.std.specs.Prelude.{List, [], ◌∷◌, ◌↔◌, ◌≡◌, ℕ, zero, suc, ◌+◌, ◌*◌, ◌<◌}
use Rattle.numbers.specs.Number.{bit}
use Rattle.numbers.specs.Paths.{Plus}
use Rattle.grammar.specs.Grammar.{Grammar}
use Rattle.trees.specs.Tree.{Tree, Kids, nil, cons, Instance, here, under, Own, KidEdge, RootGraph}

-- own edges O, and the pairs R i of each subtree i, placed at that subtree's occurrence
pub data Compound (O : Instance → Instance → Type 0) (R : ℕ → ℕ → ℕ → Type 0) : Instance → Instance → Type 0 where
  own : {x y : Instance} → O x y → Compound O R x y
  pair : {i a b : ℕ} → R i a b → Compound O R (under i (here a)) (under i (here b))

-- over the graphs of the subtrees themselves
abbrev pub OverKids : Grammar → ℕ → Kids → Instance → Instance → Type 0
OverKids g p ks = Compound (Own g p) (λ i a b. Plus (KidEdge g ks i) (here a) (here b))

-- ---- over graphs of any kind, where `Holds graph a b` says that a graph holds the pair (a, b)

-- the i-th of the graphs holds it
abbrev pub IthHolds : {Graph : Type 0} → (Graph → ℕ → ℕ → Type 0) → List Graph → ℕ → ℕ → ℕ → Type 0
IthHolds Holds [] i a b = ⊥
IthHolds Holds (graph ∷ graphs) zero a b = Holds graph a b
IthHolds Holds (graph ∷ graphs) (suc i) a b = IthHolds Holds graphs i a b

module _ (g : Grammar) {Graph : Type 0} (Holds : Graph → ℕ → ℕ → Type 0) where
  abbrev pub OverGraphs : ℕ → List Graph → Instance → Instance → Type 0
  OverGraphs p graphs = Compound (Own g p) (IthHolds Holds graphs)

  -- what production p makes of the graphs: the root's pairs of its compound graph
  abbrev pub Makes : ℕ → List Graph → Graph → Type 0
  Makes p graphs graph = (a b : ℕ) → Holds graph a b ↔ Plus (OverGraphs p graphs) (here a) (here b)

  -- the graph of a tree
  abbrev pub IsGraph : Graph → Tree → Type 0
  IsGraph graph t = (a b : ℕ) → Holds graph a b ↔ RootGraph g t a b

  abbrev pub AreGraphs : List Graph → Kids → Type 0
  AreGraphs [] nil = Unit {0}
  AreGraphs [] (cons t ks) = ⊥
  AreGraphs (graph ∷ graphs) nil = ⊥
  AreGraphs (graph ∷ graphs) (cons t ks) = IsGraph graph t × AreGraphs graphs ks

-- ---- a graph as one number: the pair (a, b) of attributes below w is worth 2 to the power w * a + b
pub record NumberHolds (w graph a b : ℕ) : Type 0 where
  pub from : a < w
  pub to : b < w
  pub worth : bit (w * a + b) graph ≡ 1
