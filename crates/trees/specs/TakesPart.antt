-- What it is to take part: to be used by some finite complete tree rooted at the start symbol. Trees from the start symbol and their subtrees.
-- Assumes nothing.
use Rattle.std.specs.Prelude.{List, ◌≡◌, ℕ}
use Rattle.numbers.specs.Paths.{Circle}
use Rattle.grammar.specs.Grammar.{Grammar}
use Rattle.trees.specs.Tree.{Tree, node, Kids, root_symbol, Complete, InTable, TreeEdge}
use Rattle.trees.specs.Address.{Subtree}
use Rattle.trees.specs.Compound.{IsGraph}

-- t is a finite complete tree of the table's productions, rooted at the symbol s
pub record RootedAt (g : Grammar) (s : ℕ) (t : Tree) : Type 0 where
  pub complete : Complete g (InTable g) t
  pub root : root_symbol g t ≡ s

-- the symbol s has a finite tree
abbrev pub HasTree : Grammar → ℕ → Type 0
HasTree g s = (t : Tree) × RootedAt g s t

-- t is a subtree, at some address, of a finite complete tree rooted at the start symbol
pub record FromStart (g : Grammar) (t : Tree) : Type 0 where
  pub tree : Tree
  pub rooted : RootedAt g g.start tree
  pub address : List ℕ
  pub there : Subtree tree address t

-- the production p takes part: it stands at some node of a finite complete tree rooted at the start symbol
pub record TakesPart (g : Grammar) (p : ℕ) : Type 0 where
  pub kids : Kids
  pub from_start : FromStart g (node p kids)

-- ---- what is asked of trees from the start symbol

-- some finite complete tree rooted at the start symbol has a circle
abbrev pub CircularFromStart : Grammar → Type 0
CircularFromStart g = (t : Tree) × RootedAt g g.start t × Circle (TreeEdge g t)

-- a symbol and a graph that some subtree of a tree from the start symbol has, at its root
pub record PairFromStart (g : Grammar) {Graph : Type 0} (Holds : Graph → ℕ → ℕ → Type 0) (q : ℕ × Graph) : Type 0 where
  pub tree : Tree
  pub from_start : FromStart g tree
  pub symbol : root_symbol g tree ≡ q.0
  pub is_graph : IsGraph g Holds q.1 tree
