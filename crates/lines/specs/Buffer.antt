-- A line in a lent buffer. Assumes nothing.
use Rattle.std.specs.Prelude.{◌≡◌, Bool, cond, List, ◌++◌, ℕ, ◌+◌, leb, length, take, drop}

-- no line but the circle's has more
abbrev pub line_bytes : ℕ
line_bytes = 128

-- room for a line in the making
abbrev pub making_bytes : ℕ
making_bytes = 320

abbrev pub line_fits : List ℕ → ℕ → List ℕ → Bool
line_fits line at old = leb (at + length line) (length old)

-- the buffer with the line from `at` on where it fits, else as before
unfoldable pub put_line : List ℕ → ℕ → List ℕ → List ℕ
put_line line at old = cond (line_fits line at old) (take at old ++ line ++ drop (at + length line) old) old

-- the place after the line where it fits, else `at`
unfoldable pub next : List ℕ → ℕ → List ℕ → ℕ
next line at old = cond (line_fits line at old) (at + length line) at

-- what a function that puts a line promises of the buffer and of its result
pub record Written (line : List ℕ) (at : ℕ) (old new : List ℕ) (r : ℕ) : Type 0 where
  pub buffer : new ≡ put_line line at old
  pub place : r ≡ next line at old
