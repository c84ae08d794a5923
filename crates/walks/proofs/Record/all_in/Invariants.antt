-- `walks::Record::all_in` meets its contract. The right symbols that are left, from k on, pass the test exactly if all of them do. Assumes nothing.
use mathlib.Core.Path.{◌≡◌}
use lib.ListN.{drop}
use Rattle.numbers.specs.Lists.{every}
use Rattle.grammar.specs.Grammar.{rights}
use Rattle.parts.specs.Sets.{has}
use Rattle.walks.proofs.Record.all_in.Given as goal

abbrev pub invariant-loop-k : goal.invariant-loop-k
invariant-loop-k l = every (has l.set.words) (drop l.k (rights l.self)) ≡ every (has l.set.words) (rights l.self)
