-- `passes::combine` meets its contract. The invariant: what is done, the picked combination and what comes after it are all combinations
-- of the turn. The measure is how many come after. Assumes nothing.
use mathlib.Core.List.{List, ◌∷◌}
use Prim.Native.Nat.{ℕ}
use lib.ListN.{length, take}
use Rattle.steps.specs.declared.Task.{Task}
use Rattle.turns.specs.Combos.{behind}
use Rattle.turns.specs.Turning.{of_symbol, Numbers}
use Rattle.passes.specs.Follow.{combos_in}
use Rattle.steps.specs.Lent.{held, Lent}
use Rattle.passes.proofs.Combining.{Left}
use Rattle.passes.proofs.combine.Given as goal

-- the combinations that come after the picked numbers
abbrev pub after : List ℕ → List ℕ → ℕ → Task → List ℕ → List (List ℕ)
after symbols rights first k picked = behind (of_symbol symbols rights) first k.count k.count picked

abbrev pub invariant-loop-now : goal.invariant-loop-now
invariant-loop-now l =
    Left l.task l.rights l.edges (combos_in l.task l.rights l.initial.now.stored l.initial.store.symbols.now) (held l.initial.store) l.initial.now
    (take l.task.count l.picked ∷ after l.initial.store.symbols.now l.rights l.initial.now.stored l.task l.picked) (held l.store) l.now
    × Numbers l.task.count l.initial.now.stored l.picked × Lent l.initial.store l.store

abbrev pub decreases-loop-now : goal.decreases-loop-now
decreases-loop-now l =
    length (after l.initial.store.symbols.now l.rights l.initial.now.stored l.task l.picked)
