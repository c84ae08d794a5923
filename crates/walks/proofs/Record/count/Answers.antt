-- `walks::Record::count` meets its contract. Assumes nothing.
use mathlib.Core.Path.{ap, ◌∙◌}
use Prim.Native.Nat.{ℕ, min}
use Rattle.walks.proofs.Steps.{count_read}
use Rattle.walks.proofs.Record.count.Goals as goal

pub returns : goal.returns
returns c = c.min.ensures ∙ ap (λ (n : ℕ). min n 7) (c.from.ensures ∙ c.two_at.ensures) ∙ count_read _ c.self.view_is
