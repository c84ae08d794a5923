-- What follows the first line, by the answer. Assumes nothing.
use mathlib.Core.Path.{◌≡◌, refl}
use mathlib.Core.List.{List}
use Prim.Native.Nat.{ℕ}
use Rattle.grammar.specs.declared.Broken.{Broken}
use Rattle.rules.specs.declared.Answer.{Answer}
use Rattle.rules.specs.declared.Answer.TheVariants.{Noncircular, Circular, Refused, OutOfSteps, OutOfRoom}
use Rattle.texts.specs.Lines.{rest}

-- neither refused nor circular
pub entries_only : (a : Answer) (entries : List ℕ) (root : ℕ → List ℕ) → ((b : Broken) → a ≡ Refused b → ⊥) → ((p : ℕ) → a ≡ Circular p → ⊥)
    → entries ≡ rest a entries root
unfolding rest
entries_only Noncircular entries root h k = refl
entries_only (Circular p) entries root h k = absurd (k p refl)
entries_only (Refused b) entries root h k = absurd (h b refl)
entries_only OutOfSteps entries root h k = refl
entries_only OutOfRoom entries root h k = refl
