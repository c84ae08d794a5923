-- Bits and little-endian numbers. Assumes nothing.
use Rattle.std.specs.Prelude.{List, ℕ, ◌+◌, ◌*◌, ◌/◌, ◌%◌, ◌^◌, get_or}

-- bit k of x, 0 or 1
abbrev pub bit : ℕ → ℕ → ℕ
bit k x = x / 2 ^ k % 2

-- the little-endian number of two and of four bytes at i; a byte past the end counts 0
abbrev pub le2 : List ℕ → ℕ → ℕ
le2 bs i = get_or bs i 0 + 256 * get_or bs (i + 1) 0

abbrev pub le4 : List ℕ → ℕ → ℕ
le4 bs i = le2 bs i + 65536 * le2 bs (i + 2)
