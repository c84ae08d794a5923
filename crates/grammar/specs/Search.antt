-- How a production's edges are found, by halving. What comes of it is `runs` of `Valid`: all of its edges, and only them. Assumes nothing.
use Rattle.std.specs.Prelude.{cond, List, ℕ, zero, suc, ◌+◌, ◌-◌, ◌*◌, ◌^◌, leb, ltb}
use Rattle.numbers.specs.Number.{le2}
use Rattle.numbers.specs.Lists.{both}
use Rattle.grammar.specs.Table.{E, at_edges}

-- the production of the edge record i
abbrev pub producing : List ℕ → ℕ → ℕ
producing bs i = le2 bs (at_edges bs + 6 * i)

-- The first `at` edges are known to be of productions below p: `step` edges more, if the last of them is too.
unfoldable pub further : List ℕ → ℕ → ℕ → ℕ → ℕ
further bs p step at = cond (both (leb (at + step) (E bs)) (ltb (producing bs (at + step - 1)) p)) (at + step) at

-- the steps 2 ^ (k - 1) to 1, each half of the one before
unfoldable pub seek : ℕ → List ℕ → ℕ → ℕ → ℕ
seek zero bs p at = at
seek (suc k) bs p at = seek k bs p (further bs p (2 ^ k) at)

-- how many edges are of productions below p, where the edges ascend; there are fewer than 2 ^ 16
abbrev pub run_start : List ℕ → ℕ → ℕ
run_start bs p = seek 16 bs p 0

-- the same for p + 1, looked for from there
abbrev pub run_end : List ℕ → ℕ → ℕ
run_end bs p = seek 16 bs (p + 1) (run_start bs p)
