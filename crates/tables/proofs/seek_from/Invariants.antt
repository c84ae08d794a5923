-- `tables::seek_from` meets its contract. The steps that are left, from where the search stands, lead where all of them lead. Assumes nothing.
use mathlib.Core.Path.{◌≡◌}
use Prim.Native.Nat.{◌≤◌}
use Rattle.grammar.specs.Search.{seek}
use Rattle.tables.proofs.seek_from.Given as goal

abbrev pub invariant-loop-k : goal.invariant-loop-k
invariant-loop-k l = (l.from ≤ l.at) × (l.at ≤ l.h.edges) × (seek l.k l.table l.p l.at ≡ seek 16 l.table l.p l.from)
