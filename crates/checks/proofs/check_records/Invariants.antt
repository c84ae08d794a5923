-- `checks::check_records` meets its contract. What the records from i on say is what all of them say. Assumes nothing.
use mathlib.Core.Path.{◌≡◌}
use Prim.Native.Nat.{ℕ, ◌<◌}
use Rattle.std.specs.Prelude.{Result}
use Rattle.grammar.specs.declared.Rule.{Rule}
use Rattle.grammar.specs.Refusal.{first_bad}
use Rattle.grammar.proofs.First.{left}
use Rattle.checks.proofs.check_records.Given as goal

abbrev pub invariant-loop-i : goal.invariant-loop-i
invariant-loop-i g l =
    (said : ℕ → Result _ Rule) → ((i : ℕ) → i < l.count → (r : _) → goal.F-post g l.read i r → r ≡ said i) → left said l.count l.i ≡ first_bad said 0 l.count
