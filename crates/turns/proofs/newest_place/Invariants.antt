-- `turns::newest_place` meets its contract. The invariant: what is found from here on is what is to be found. Assumes nothing.
use Rattle.std.proofs.Common.{◌≡◌}
use Rattle.turns.specs.Skips.{newest_to}
use Rattle.turns.proofs.newest_place.Given as goal

abbrev pub invariant-loop-place : goal.invariant-loop-place
invariant-loop-place l =
    newest_to l.symbols l.rights l.old l.first l.place ≡ newest_to l.symbols l.rights l.old l.first l.count
