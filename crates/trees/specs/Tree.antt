-- Finite complete trees over a grammar, the attributes of their nodes, and their attribute graphs. Assumes nothing.
use mathlib.Core.List.{List, [], ◌∷◌, ◌++◌, map, Memᴰ}
use Rattle.std.specs.Prelude.{◌≡◌, ℕ, zero, suc, ◌/◌, ◌%◌, ◌≤◌, ◌<◌, length}
use Rattle.std.proofs.Math.Decide.{ℕ_discrete}
use Rattle.numbers.specs.Lists.{up_from}
use Rattle.numbers.specs.Paths.{Plus, Circle}
use Rattle.grammar.specs.declared.Symbol.{Symbol}
use Rattle.grammar.specs.declared.Production.{Production}
use Rattle.grammar.specs.declared.Node.{Node}
use Rattle.grammar.specs.declared.Edge.{Edge}
use Rattle.grammar.specs.Grammar.{Grammar, symbol, production, rights}
use Rattle.grammar.specs.Rules.{GoodEdge}

-- ---- trees

-- a node has the number of a production, and its subtrees from left to right
mutual
  pub data Tree : Type 0 where
    node : ℕ → Kids → Tree

  pub data Kids : Type 0 where
    nil : Kids
    cons : Tree → Kids → Kids

abbrev pub root_symbol : Grammar → Tree → ℕ
root_symbol g (node p ks) = (production g p).left

-- A finite complete tree over productions of which Part holds: at each node such a production and, below it, one complete tree for each right
-- symbol, which has that symbol at its root.
abbrev mutual
  pub Complete : Grammar → (ℕ → Type 0) → Tree → Type 0
  Complete g Part (node p ks) = Part p × OneEach g Part ks (rights (production g p))

  pub OneEach : Grammar → (ℕ → Type 0) → Kids → List ℕ → Type 0
  OneEach g Part nil [] = Unit {0}
  OneEach g Part nil (s ∷ ss) = ⊥
  OneEach g Part (cons t ks) [] = ⊥
  OneEach g Part (cons t ks) (s ∷ ss) = (root_symbol g t ≡ s) × Complete g Part t × OneEach g Part ks ss

-- a production of the table
abbrev pub InTable : Grammar → ℕ → Type 0
InTable g p = p < length g.productions

-- ---- the attributes of the nodes

-- `here a` is attribute a of the root, `under i x` is the attribute x of the i-th subtree of the root, counted from 0: so
-- `under i (under j (here a))` is attribute a of the node at the address i, j
pub data Instance : Type 0 where
  here : ℕ → Instance
  under : ℕ → Instance → Instance
  deriving Discrete as Instance-discrete

unfoldable pub same_instance : Discrete Instance
same_instance = Instance-discrete ℕ_discrete

-- attribute a of the occurrence o of the root's production: 0 is the root itself, i + 1 the root of its i-th subtree
abbrev pub at : ℕ → ℕ → Instance
at zero a = here a
at (suc i) a = under i (here a)

-- the same by the number of the node in the root's compound graph, where an occurrence has w attributes
abbrev pub value_at : ℕ → ℕ → Instance
value_at w n = at (n / w) (n % w)

abbrev pub instance_of : Node → Instance
instance_of x = at x.occurrence x.attribute

-- the values of a tree: all attributes of all its nodes, node by node from the root, the subtrees from left to right
abbrev mutual
  pub instances : Grammar → Tree → List Instance
  instances g (node p ks) = map here (up_from 0 (symbol g (production g p).left).count) ++ kid_instances g ks 0

  -- those of the subtrees, of which the first is the j-th
  pub kid_instances : Grammar → Kids → ℕ → List Instance
  kid_instances g nil j = []
  kid_instances g (cons t ks) j = map (under j) (instances g t) ++ kid_instances g ks (suc j)

-- ---- the attribute graph

-- one of the edges es belongs to the production p and leads from x to y
pub record Link (es : List Edge) (p : ℕ) (x y : Instance) : Type 0 where
  pub edge : Edge
  pub among : Memᴰ edge es
  pub which : edge.production ≡ p
  pub from : x ≡ instance_of edge.source
  pub to : y ≡ instance_of edge.target

-- the own edges of a production
abbrev pub Own : Grammar → ℕ → Instance → Instance → Type 0
Own g p = Link g.edges p

-- a graph O at the root, and a graph K i in the i-th subtree
pub data Joined (O : Instance → Instance → Type 0) (K : ℕ → Instance → Instance → Type 0) : Instance → Instance → Type 0 where
  own : {x y : Instance} → O x y → Joined O K x y
  kid : {i : ℕ} {x y : Instance} → K i x y → Joined O K (under i x) (under i y)

-- the attribute graph of a tree joins the edges of all its productions, each at its own node
abbrev mutual
  pub TreeEdge : Grammar → Tree → Instance → Instance → Type 0
  TreeEdge g (node p ks) x y = Joined (Own g p) (λ i u v. KidEdge g ks i u v) x y

  -- that of the i-th subtree
  pub KidEdge : Grammar → Kids → ℕ → Instance → Instance → Type 0
  KidEdge g nil i x y = ⊥
  KidEdge g (cons t ks) zero x y = TreeEdge g t x y
  KidEdge g (cons t ks) (suc i) x y = KidEdge g ks i x y

-- the pair (a, b) of root attributes is in the graph of a tree: a path of at least one edge leads from a to b inside the tree
abbrev pub RootGraph : Grammar → Tree → ℕ → ℕ → Type 0
RootGraph g t a b = Plus (TreeEdge g t) (here a) (here b)

-- some finite complete tree, rooted at any symbol, has a circle
abbrev pub Circular : Grammar → (ℕ → Type 0) → Type 0
Circular g Part = (t : Tree) × Complete g Part t × Circle (TreeEdge g t)

-- ---- what is asked of a grammar; the rules of the table give it

pub record WellFormed (g : Grammar) : Type 0 where
  -- each right symbol has its slot
  pub slots : (p : Production) → Memᴰ p g.productions → p.n ≤ length p.slots
  pub edges : (e : Edge) → Memᴰ e g.edges → GoodEdge g e

-- each symbol has at most w attributes
abbrev pub AtMost : ℕ → Grammar → Type 0
AtMost w g = (s : Symbol) → Memᴰ s g.symbols → s.count ≤ w
