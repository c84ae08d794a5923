-- A graph is a list of rows, one for each node: bit j of row i says that an edge leads from node i to node j.
-- All is over the number w of attributes that an occurrence has. Assumes nothing.
use Rattle.std.specs.Prelude.{Bool, true, false, cond, List, [], ◌∷◌, map, ℕ, zero, suc, ◌+◌, ◌*◌, ◌/◌, ◌%◌, ◌^◌, ltb, length, get_or, set, replicate}
use Rattle.std.specs.Int.Bits.{bit_or}
use Rattle.numbers.specs.Number.{bit}
use Rattle.grammar.specs.declared.Node.{Node}
use Rattle.grammar.specs.declared.Edge.{Edge}

-- the number of a node: w times its occurrence plus its attribute
abbrev pub node : ℕ → Node → ℕ
node w x = w * x.occurrence + x.attribute

-- 1 where an edge leads from i to j, and 0 elsewhere
abbrev pub bits : List ℕ → ℕ → ℕ → ℕ
bits rows i j = bit j (get_or rows i 0)

-- ---- the compound graph: a production's own edges, and each subtree's pairs placed at that subtree's occurrence

-- the bits of x are joined into row i; where there is no row i nothing changes
abbrev pub join_at : ℕ → ℕ → List ℕ → List ℕ
join_at i x rows = set rows i (bit_or (get_or rows i 0) x)

-- one edge more, from node i to node j; where there is no such node nothing changes
unfoldable pub link : ℕ → ℕ → List ℕ → List ℕ
link i j rows = cond (ltb j (length rows)) (join_at i (2 ^ j) rows) rows

unfoldable pub own : ℕ → List Edge → List ℕ → List ℕ
own w [] rows = rows
own w (e ∷ es) rows = own w es (link (node w e.source) (node w e.target) rows)

-- the pairs (a, _) of a graph, in which the pair (a, b) is worth 2 to the power w * a + b
abbrev pub pairs_from : ℕ → ℕ → ℕ → ℕ
pairs_from w a graph = graph / 2 ^ (w * a) % 2 ^ w

-- the pairs that begin in the first c attributes, at the occurrence o
unfoldable pub placed_to : ℕ → ℕ → ℕ → ℕ → List ℕ → List ℕ
placed_to w o graph zero rows = rows
placed_to w o graph (suc a) rows = join_at (w * o + a) (pairs_from w a graph * 2 ^ (w * o)) (placed_to w o graph a rows)

abbrev pub placed : ℕ → ℕ → ℕ → List ℕ → List ℕ
placed w o graph rows = placed_to w o graph w rows

-- the subtrees' graphs, the first of them at the occurrence o
unfoldable pub placed_from : ℕ → ℕ → List ℕ → List ℕ → List ℕ
placed_from w o [] rows = rows
placed_from w o (graph ∷ graphs) rows = placed_from w (suc o) graphs (placed w o graph rows)

-- w * (n + 1) nodes, where n subtrees are given
unfoldable pub compound : ℕ → List Edge → List ℕ → List ℕ
compound w edges graphs = placed_from w 1 graphs (own w edges (replicate (w * suc (length graphs)) 0))

-- ---- the closure

-- a row, joined with `via` where b is not 0
abbrev pub join : ℕ → ℕ → ℕ → ℕ
join zero via row = row
join (suc b) via row = bit_or row via

-- a row after the step through node k, whose row is `via`
unfoldable pub through : ℕ → ℕ → ℕ → ℕ
through k via row = join (bit k row) via row

-- the step through node k
unfoldable pub step : ℕ → List ℕ → List ℕ
step k rows = map (through k (get_or rows k 0)) rows

-- the steps through the nodes below k
unfoldable pub steps_to : ℕ → List ℕ → List ℕ
steps_to zero rows = rows
steps_to (suc k) rows = step k (steps_to k rows)

-- one closure
unfoldable pub closure : List ℕ → List ℕ
closure rows = steps_to (length rows) rows

-- ---- what is read off the closed rows

abbrev pub or_else : ℕ → Bool → Bool
or_else zero r = r
or_else (suc b) r = true

-- some node below n leads to itself
unfoldable pub circle_to : ℕ → List ℕ → Bool
circle_to zero rows = false
circle_to (suc n) rows = or_else (bits rows n n) (circle_to n rows)

abbrev pub has_circle : List ℕ → Bool
has_circle rows = circle_to (length rows) rows

-- the pairs (a, b) of the left symbol's attributes with a below n
unfoldable pub root_to : ℕ → ℕ → List ℕ → ℕ
root_to w zero rows = 0
root_to w (suc a) rows = bit_or (root_to w a rows) (get_or rows a 0 % 2 ^ w * 2 ^ (w * a))

-- the graph of the root, one number
abbrev pub root_graph : ℕ → List ℕ → ℕ
root_graph w rows = root_to w w rows
