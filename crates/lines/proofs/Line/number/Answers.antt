-- `io::decimal` gives the fewest digits that hold the number. Assumes nothing.
use mathlib.Core.List.{List, append_assoc}
use mathlib.Core.Path.{◌≡◌, sym, ap, ◌∙◌}
use Prim.Native.Nat.{ℕ}
use Rattle.io.specs.Digits.{IsDigitCount, last_digits}
use Rattle.texts.specs.Lines.{decimal}
use Rattle.texts.proofs.Decimal.{fewest}
use Rattle.lines.proofs.Line.number.Goals as goal

is_decimal : (n k : ℕ) (digits : List ℕ) → IsDigitCount 10 1 n k → digits ≡ last_digits 10 k n → digits ≡ decimal n
unfolding decimal
is_decimal n k digits len is = is ∙ ap (λ (j : ℕ). last_digits 10 j n) (sym (fewest n k len))

pub returns-clause-text : goal.returns-clause-text
returns-clause-text c =
    let d = c.decimal-count.ensures in
    rw (c.word-2.ensures, c.word.ensures, is_decimal c.args.n _ _ d.len d.digits) (append_assoc c.args.self.now c.args.tag.now (decimal c.args.n))
