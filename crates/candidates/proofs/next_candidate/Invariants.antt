-- `candidates::next_candidate` meets its contract. The invariant: what is found from here on is what is to be found. Assumes nothing.
use mathlib.Core.Path.{◌≡◌}
use Prim.Native.Nat.{◌-◌}
use lib.Dec.{eqb}
use lib.ListN.{get_or}
use Rattle.candidates.specs.Next.{first_up, next_of}
use Rattle.candidates.proofs.next_candidate.Given as goal

abbrev pub invariant-loop-e : goal.invariant-loop-e
invariant-loop-e l = first_up (λ i. eqb (get_or l.symbols i 0) l.symbol) l.e (l.e-end - l.e) ≡ next_of l.symbols l.symbol l.from l.first
