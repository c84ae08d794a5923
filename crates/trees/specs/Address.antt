-- The same told by addresses: a node of a tree has the list of the numbers, from 0, of the subtrees that lead to it. Assumes nothing.
use Rattle.std.specs.Prelude.{List, [], ◌∷◌, ◌≡◌, ℕ, suc, ◌<◌}
use Rattle.grammar.specs.Grammar.{Grammar, symbol, production}
use Rattle.trees.specs.Tree.{Tree, node, Kids, cons, Instance, here, under, Own}

abbrev pub address : Instance → List ℕ
address (here a) = []
address (under i x) = i ∷ address x

abbrev pub attribute : Instance → ℕ
attribute (here a) = a
attribute (under i x) = attribute x

-- what is x in the subtree at d is `inside d x` in the whole tree
abbrev pub inside : List ℕ → Instance → Instance
inside [] x = x
inside (i ∷ d) x = under i (inside d x)

-- t is the i-th of the kids
pub data Kid : Kids → ℕ → Tree → Type 0 where
  first : {t : Tree} {ks : Kids} → Kid (cons t ks) 0 t
  later : {t u : Tree} {ks : Kids} {i : ℕ} → Kid ks i t → Kid (cons u ks) (suc i) t

-- the subtree at an address
pub data Subtree : Tree → List ℕ → Tree → Type 0 where
  whole : {t : Tree} → Subtree t [] t
  down : {p i : ℕ} {ks : Kids} {t s : Tree} {d : List ℕ} → Kid ks i t → Subtree t d s → Subtree (node p ks) (i ∷ d) s

-- a node stands at the address of x, and the left symbol of its production has x's attribute
pub record HasValue (g : Grammar) (t : Tree) (x : Instance) : Type 0 where
  pub p : ℕ
  pub ks : Kids
  pub node_there : Subtree t (address x) (node p ks)
  pub attribute_there : attribute x < (symbol g (production g p).left).count

-- some node, at d, has a production p with an edge from u to v of its occurrences, which are x and y in the whole tree
pub record AtNode (g : Grammar) (t : Tree) (x y : Instance) : Type 0 where
  pub d : List ℕ
  pub p : ℕ
  pub ks : Kids
  pub u : Instance
  pub v : Instance
  pub stands : Subtree t d (node p ks)
  pub edge : Own g p u v
  pub from : x ≡ inside d u
  pub to : y ≡ inside d v
