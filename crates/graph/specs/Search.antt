-- How the shortest and least path from x to y is found: going back from y, link by link, until x is met; then forward from x, always to the
-- smallest node from which y is as near as it must be. The circle is such a path from a node back to it. A set of nodes is a number, in
-- which node i is worth 2 to the power i; there are as many nodes as rows. Assumes nothing.
use Rattle.std.specs.Prelude.{cond, List, [], ◌∷◌, ℕ, zero, suc, ◌^◌, ltb, length, get_or}
use Rattle.std.specs.Int.Bits.{bit_and}
use Rattle.numbers.specs.Number.{bit}
use Rattle.numbers.specs.Lists.{both}
use Rattle.graph.specs.declared.Nearest.{Nearest}
use Rattle.graph.specs.Rows.{join}

-- the nodes below n with a link into a set
unfoldable pub into : ℕ → List ℕ → ℕ → ℕ
into zero rows set = 0
into (suc i) rows set = join (bit_and (get_or rows i 0) set) (2 ^ i) (into i rows set)

-- the nodes from which exactly k links lead to y
unfoldable pub level : List ℕ → ℕ → ℕ → ℕ
level rows y zero = 2 ^ y
level rows y (suc k) = into (length rows) rows (level rows y k)

-- i where b is not 0, else j
abbrev pub here_else : ℕ → ℕ → ℕ → ℕ
here_else zero i j = j
here_else (suc b) i j = i

-- the first number from i on, among n of them, at which f is not 0; i + n where there is none
unfoldable pub first_from : (ℕ → ℕ) → ℕ → ℕ → ℕ
first_from f zero i = i
first_from f (suc n) i = here_else (f i) i (first_from f n (suc i))

-- the smallest node below n in a set; n where there is none
abbrev pub lowest : ℕ → ℕ → ℕ
lowest n set = first_from (λ j. bit j set) n 0

-- how many nodes a shortest path from x to y has between them; as many as there are nodes where there is no path
unfoldable pub between : List ℕ → ℕ → ℕ → ℕ
between rows x y = first_from (λ k. bit x (level rows y (suc k))) (length rows) 0

-- the k nodes between x and y on the least path of k + 1 links
unfoldable pub least_between : List ℕ → ℕ → ℕ → ℕ → List ℕ
least_between rows y zero x = []
least_between rows y (suc k) x =
    let z = lowest (length rows) (bit_and (get_or rows x 0) (level rows y (suc k))) in z ∷ least_between rows y k z

-- the shortest and least path from x to a node y; empty where there is none
unfoldable pub path_of : List ℕ → ℕ → ℕ → List ℕ
path_of rows x y =
    let k = between rows x y in
    let n = length rows in
    cond (both (ltb y n) (ltb k n)) (x ∷ least_between rows y k x) []

-- ---- the circle begins at the smallest of the nodes with a shortest path back to themselves

-- s, if it has fewer nodes between it and itself than the one found so far
unfoldable pub nearer : ℕ → ℕ → Nearest → Nearest
nearer s k b = cond (ltb k b.between) (record { start = s; between = k }) b

-- among the nodes below n
unfoldable pub nearest_to : ℕ → List ℕ → Nearest
nearest_to zero rows = record { start = 0; between = length rows }
nearest_to (suc s) rows = nearer s (between rows s s) (nearest_to s rows)

-- where there is no circle this is empty
unfoldable pub circle_of : List ℕ → List ℕ
circle_of rows =
    let s = (nearest_to (length rows) rows).start in path_of rows s s
