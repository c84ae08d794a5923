-- `turns::next_combination` meets its contract. The invariant: what is found from here on is what is to be found. Assumes nothing.
use Rattle.std.proofs.Common.{◌≡◌}
use Rattle.turns.specs.Moves.{moved_to}
use Rattle.turns.proofs.next_combination.Given as goal

abbrev pub invariant-loop-k : goal.invariant-loop-k
invariant-loop-k l =
    moved_to l.symbols l.rights l.firsts l.first l.k l.picked ≡ moved_to l.symbols l.rights l.firsts l.first l.count l.initial.picked
