-- `walks::Record::add_to` meets its contract. The loop's invariant: the right symbols that are left, added to the set, are all of them.
-- Assumes nothing.
use mathlib.Core.Path.{◌≡◌}
use lib.ListN.{drop}
use Rattle.grammar.specs.Grammar.{rights}
use Rattle.parts.specs.Sets.{add_all}
use Rattle.walks.proofs.Record.add_to.Given as goal

abbrev pub invariant-loop-k : goal.invariant-loop-k
invariant-loop-k l = add_all l.set.words (drop l.k (rights l.self)) ≡ add_all l.initial.set.words (rights l.self)
