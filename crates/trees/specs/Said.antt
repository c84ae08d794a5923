-- What the circle of a root says of the tree that it shows, and what the path of an entry's pair says. Assumes nothing.
use Rattle.std.specs.Prelude.{false, ◌≡◌, ℕ, suc, ◌*◌, ◌≤◌, length, get_or}
use mathlib.Core.List.{List, Memᴰ}
use Rattle.numbers.specs.Paths.{Plus}
use Rattle.grammar.specs.Grammar.{Grammar, edges_of}
use Rattle.graph.specs.Rows.{compound}
use Rattle.graph.specs.Paths.{ShortestPath, ShortestCircle}
use Rattle.graph.specs.Marks.{AllMarked}
use Rattle.trees.specs.Tree.{Tree, Instance, value_at, instances, TreeEdge}
use Rattle.trees.specs.Evaluator.{Computed, Reached}
use Rattle.trees.specs.Record.{Entry, shown, graphs_at}

-- x is a value of the tree and lies on a circle of its attribute graph, and no evaluator, in whatever order it takes, ever computes it
pub record Waits (g : Grammar) (t : Tree) (x : Instance) : Type 0 where
  pub among : Memᴰ x (instances g t)
  pub circle : Plus (TreeEdge g t) x x
  pub never : {n : ℕ} {d : Computed Instance} → Reached g t n d → d x ≡ false

module _ (w : ℕ) (g : Grammar) (entry : ℕ → Entry ℕ) where
  -- the compound graph of the production p over the graphs of some entries
  abbrev pub rows_over : ℕ → List ℕ → List ℕ
  rows_over p ks = compound w (edges_of g p) (graphs_at entry ks)

  -- each link of a path c to y in it is what the mark at its place says
  abbrev pub MarkedOver : ℕ → List ℕ → List ℕ → ℕ → List ℕ → Type 0
  MarkedOver p ks = AllMarked w (edges_of g p) (graphs_at entry ks)

  -- of the root p over the entries ks: c is the shortest and least circle, each link is as it is marked, and no value on it is ever computed
  pub record Said (p : ℕ) (ks c marks : List ℕ) : Type 0 where
    pub circle : ShortestCircle (rows_over p ks) c
    pub links : MarkedOver p ks c (get_or c 0 0) marks
    pub waits : (n : ℕ) → Memᴰ n c → Waits g (shown entry p ks) (value_at w n)

  -- of the pair (a, b) of the entry k: c is the shortest and least path, each link is as it is marked, and it is no longer than there are nodes
  pub record Spelled (k a b : ℕ) (c marks : List ℕ) : Type 0 where
    pub path : ShortestPath (rows_over (entry k).production (entry k).kids) a b c
    pub links : MarkedOver (entry k).production (entry k).kids c b marks
    pub long : length c ≤ w * suc (length (entry k).kids)
