-- The derivation record, the tree that it shows, and a store that no production adds to. Assumes nothing.
use Rattle.std.specs.Prelude.{List, [], ◌∷◌, map, ◌≡◌, ℕ, zero, suc, ◌<◌}
use Rattle.numbers.specs.Lists.{up_from}
use Rattle.numbers.specs.Paths.{Circle}
use Rattle.grammar.specs.Grammar.{Grammar, production, rights}
use Rattle.grammar.specs.Fits.{Fits}
use Rattle.trees.specs.Tree.{Tree, node, Kids, nil, cons, root_symbol, Complete}
use Rattle.trees.specs.Compound.{OverGraphs, Makes, IsGraph}

-- an entry: a symbol and a graph, made by a production over earlier entries, one number for each right symbol
pub record Entry (Graph : Type 0) : Type 0 where
  pub symbol : ℕ
  pub graph : Graph
  pub production : ℕ
  pub kids : List ℕ

-- the trees of some numbers, in a row
abbrev pub row : (ℕ → Tree) → List ℕ → Kids
row tree [] = nil
row tree (k ∷ ks) = cons (tree k) (row tree ks)

-- the entries are numbered from 0
module _ {Graph : Type 0} (entry : ℕ → Entry Graph) where
  -- the tree of the entry k as far as it has d levels
  abbrev pub levels : ℕ → ℕ → Tree
  levels zero k = node 0 nil
  levels (suc d) k = node (entry k).production (row (λ j. levels d j) (entry k).kids)

  -- each number is smaller than its parent's, so the entry k has at most k + 1 levels, and nothing is cut off (`shown_again`)
  abbrev pub shown_entry : ℕ → Tree
  shown_entry k = levels (suc k) k

  -- the shown tree: the root's production, and below it the trees of its entry numbers
  abbrev pub shown : ℕ → List ℕ → Tree
  shown p ks = node p (row shown_entry ks)

  -- one number below n for each right symbol, of an entry with that symbol
  abbrev pub KidsBelow : ℕ → List ℕ → List ℕ → Type 0
  KidsBelow n = Fits (λ k. k < n) (λ k. (entry k).symbol)

  abbrev pub graphs_at : List ℕ → List Graph
  graphs_at = map (λ k. (entry k).graph)

  -- the symbol and the graph of each of the first `count` entries
  abbrev pub pairs : ℕ → List (ℕ × Graph)
  pairs count = map (λ k. ((entry k).symbol, (entry k).graph)) (up_from 0 count)

  -- one of the first `count` entries has the symbol s, and its graph is as P asks
  pub record Stored (count s : ℕ) (P : Graph → Type 0) : Type 0 where
    pub number : ℕ
    pub among : number < count
    pub symbol : (entry number).symbol ≡ s
    pub graph : P (entry number).graph

module _ (g : Grammar) {Graph : Type 0} (Holds : Graph → ℕ → ℕ → Type 0) (Part : ℕ → Type 0) where
  -- t is complete, with the symbol s at its root and the graph
  pub record Shows (s : ℕ) (graph : Graph) (t : Tree) : Type 0 where
    pub complete : Complete g Part t
    pub symbol : root_symbol g t ≡ s
    pub is_graph : IsGraph g Holds graph t

  -- a symbol and a graph that some finite complete tree has
  abbrev pub OfTree : ℕ × Graph → Type 0
  OfTree q = (t : Tree) × Shows q.0 q.1 t

  module _ (entry : ℕ → Entry Graph) where
    -- the entry k is made by its production, which takes part, over earlier entries
    pub record Derived (k : ℕ) : Type 0 where
      pub part : Part (entry k).production
      pub left : (production g (entry k).production).left ≡ (entry k).symbol
      pub right : KidsBelow entry k (entry k).kids (rights (production g (entry k).production))
      pub made : Makes g Holds (entry k).production (graphs_at entry (entry k).kids) (entry k).graph

    -- each production that takes part, over each combination of the first `count` entries, has no circle, and what it makes is stored
    pub record Saturated (count : ℕ) : Type 0 where
      pub no_circle :
          (p : ℕ) → Part p → (ks : List ℕ) → KidsBelow entry count ks (rights (production g p))
          → ¬ Circle (OverGraphs g Holds p (graphs_at entry ks))
      pub stored :
          (p : ℕ) → Part p → (ks : List ℕ) → KidsBelow entry count ks (rights (production g p))
          → Stored entry count (production g p).left (Makes g Holds p (graphs_at entry ks))
