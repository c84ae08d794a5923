-- A table that has more rows than there are nodes, as the code keeps one, and the nodes to which an edge leads. Assumes nothing.
use Rattle.std.specs.Prelude.{List, ◌++◌, map, ℕ, zero, suc, ◌*◌, get_or, take, drop}
use Rattle.std.specs.Int.Bits.{bit_or}
use Rattle.grammar.specs.Table.{attributes}
use Rattle.graph.specs.Rows.{closure}

-- as many rows as a compound graph has nodes at most: the attributes of a left symbol and seven right ones
abbrev pub most_nodes : ℕ
most_nodes = attributes * 8

-- f of each of the first m rows
abbrev pub map_first : ℕ → (ℕ → ℕ) → List ℕ → List ℕ
map_first m f rows = map f (take m rows) ++ drop m rows

-- the closure of the first m nodes, in a table with more rows than there are nodes
abbrev pub closed_first : ℕ → List ℕ → List ℕ
closed_first m rows = closure (take m rows) ++ drop m rows

-- the nodes to which an edge of the first n rows leads, as the bits of one row
unfoldable pub targets_to : ℕ → List ℕ → ℕ
targets_to zero rows = 0
targets_to (suc n) rows = bit_or (targets_to n rows) (get_or rows n 0)
