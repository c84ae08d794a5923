-- The circle is said of what the passes give, and nothing else is changed: so the outcome stays sound, and two outcomes compare as they did.
-- Over the number w of attributes. Assumes nothing.
use mathlib.Core.Path.{ap}
use Prim.Native.Nat.{ℕ}
use Rattle.grammar.specs.Grammar.{Grammar}
use Rattle.rules.specs.declared.Answer.{Answer}
use Rattle.rules.specs.declared.Answer.TheVariants.{Noncircular, Circular, Refused, OutOfSteps, OutOfRoom}
use Rattle.rules.specs.Passes.{System, Outcome}
use Rattle.rules.specs.Test.{saying}
use Rattle.orders.specs.Answers.{Says, Sound, StepsCompared, RoomCompared}

module _ (w : ℕ) (g : Grammar) where
  module _ (W : System) (Part : ℕ → Type 0) (L R : ℕ) (o : Outcome) where
    says_still : (a : Answer) → Says W Part L R o a → Says W Part L R (saying w g o) a
    says_still Noncircular h = h
    says_still (Circular p) h = h
    says_still (Refused b) h = h
    says_still OutOfSteps h = h
    says_still OutOfRoom h = h

    pub sound_still : Sound W Part L R o → Sound W Part L R (saying w g o)
    sound_still s = record {
      made = s.made;
      different = s.different;
      counted = s.counted;
      entries = s.entries;
      closures = s.closures;
      says = says_still o.report.answer s.says;
    }

  pub steps_still : (L : ℕ) (o o' : Outcome) → StepsCompared L o o' → StepsCompared L (saying w g o) (saying w g o')
  steps_still L o o' c = record { exactly = c.exactly; else = λ n. ap (saying w g) (c.else n); stays = c.stays }

  pub room_still : (R : ℕ) (o o' : Outcome) → RoomCompared R o o' → RoomCompared R (saying w g o) (saying w g o')
  room_still R o o' c = record { exactly = c.exactly; else = λ n. ap (saying w g) (c.else n); stays = c.stays }
