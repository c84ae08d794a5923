-- `checks::check_edges` meets its contract. What the edges from i on say, after the edge before them, is what all of them say. Assumes nothing.
use mathlib.Core.Path.{◌≡◌}
use Prim.Native.Nat.{◌<◌, ◌-◌}
use Rattle.grammar.specs.Table.{E, grammar_of}
use Rattle.grammar.specs.Rules.{edge}
use Rattle.grammar.specs.Refusal.{edge_rule}
use Rattle.grammar.specs.Steps.{edges_check}
use Rattle.grammar.proofs.First.{left}
use Rattle.checks.proofs.check_edges.Given as goal

abbrev pub invariant-loop-i : goal.invariant-loop-i
invariant-loop-i l =
    (l.i < E l.table → 0 < l.i → l.before ≡ edge (grammar_of l.table) (l.i - 1))
    × (left (edge_rule (grammar_of l.table)) (E l.table) l.i ≡ edges_check l.table)
