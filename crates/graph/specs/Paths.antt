-- Paths and circles of a graph that is given by its rows, each as the list of the nodes that its links leave; the shortest, and of these the
-- least. Over any number of rows. Assumes nothing.
use mathlib.Core.List.{List, [], ◌∷◌, Memᴰ}
use Rattle.std.specs.Prelude.{◌⊎◌, ◌≡◌, ℕ, ◌≤◌, length, get_or}
use Rattle.numbers.specs.Lists.{Below}
use Rattle.numbers.specs.Paths.{Leads}
use Rattle.graph.specs.Rows.{bits}

-- a link leads from node i to node j
abbrev pub Linked : List ℕ → ℕ → ℕ → Type 0
Linked rows i j = Leads (bits rows) i j

-- from x to the first of a list, from each of it to the next, and from the last to y
abbrev pub Chain : List ℕ → ℕ → List ℕ → ℕ → Type 0
Chain rows x [] y = Linked rows x y
Chain rows x (z ∷ zs) y = Linked rows x z × Chain rows z zs y

-- A path of one or more links from x to y: x stands first, and y, to which the last link leads, is not written at the end. So there are as
-- many nodes as links.
abbrev pub IsPath : List ℕ → ℕ → ℕ → List ℕ → Type 0
IsPath rows x y [] = ⊥
IsPath rows x y (z ∷ zs) = (z ≡ x) × Chain rows z zs y

-- a shortest path from x to y, and none of its length is less
pub record ShortestPath (rows : List ℕ) (x y : ℕ) (c : List ℕ) : Type 0 where
  pub path : IsPath rows x y c
  pub shortest : (d : List ℕ) → IsPath rows x y d → length c ≤ length d
  pub least : (d : List ℕ) → IsPath rows x y d → length d ≡ length c → ¬ Below d c

-- a circle: a path back to its first node
abbrev pub IsCircle : List ℕ → List ℕ → Type 0
IsCircle rows c = IsPath rows (get_or c 0 0) (get_or c 0 0) c

-- a list is written from its smallest node
abbrev pub FromSmallest : List ℕ → Type 0
FromSmallest c = (x : ℕ) → Memᴰ x c → get_or c 0 0 ≤ x

-- a shortest circle, written from its smallest node, and none of its length that is so written is less
pub record ShortestCircle (rows c : List ℕ) : Type 0 where
  pub circle : IsCircle rows c
  pub shortest : (d : List ℕ) → IsCircle rows d → length c ≤ length d
  pub smallest : FromSmallest c
  pub least : (d : List ℕ) → IsCircle rows d → FromSmallest d → length d ≡ length c → ¬ Below d c

-- the one that is asked for, or the empty list where there is none of its kind
abbrev pub OrNone : (List ℕ → Type 0) → (List ℕ → Type 0) → List ℕ → Type 0
OrNone Asked Kind c = Asked c ⊎ ((c ≡ []) × ((d : List ℕ) → ¬ Kind d))

abbrev pub PathOrNone : List ℕ → ℕ → ℕ → List ℕ → Type 0
PathOrNone rows x y = OrNone (ShortestPath rows x y) (IsPath rows x y)

abbrev pub CircleOrNone : List ℕ → List ℕ → Type 0
CircleOrNone rows = OrNone (ShortestCircle rows) (IsCircle rows)
