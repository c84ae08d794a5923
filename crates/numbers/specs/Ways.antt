-- The paths through some nodes only, as numbers: what the closure computes step by step. No promise speaks of it. Assumes nothing.
use Rattle.std.specs.Prelude.{ℕ, zero, suc, max, min}

-- where m i j is 1 if an edge leads from i to j and else 0: the same for the paths all of whose nodes between the ends are below k
unfoldable pub ways : ℕ → (ℕ → ℕ → ℕ) → ℕ → ℕ → ℕ
ways zero m i j = m i j
ways (suc k) m i j = max (ways k m i j) (min (ways k m i k) (ways k m k j))
