-- `turns::first_candidates` meets its contract. The invariant: what is found from here on is what is to be found. Assumes nothing.
use Rattle.std.proofs.Common.{◌≡◌}
use Rattle.turns.specs.Moves.{firsts_to}
use Rattle.turns.proofs.first_candidates.Given as goal

abbrev pub invariant-loop-k : goal.invariant-loop-k
invariant-loop-k l =
    firsts_to l.symbols l.rights l.first l.k l.firsts ≡ firsts_to l.symbols l.rights l.first l.count l.initial.firsts
