-- `steps::Entries::seen` meets its contract. The invariant: the entries from k on are not the symbol with the graph. Assumes nothing.
use mathlib.Core.Path.{◌≡◌}
use Rattle.steps.specs.Step.{seen_in}
use Rattle.steps.proofs.Entries.seen.Given as goal

abbrev pub invariant-loop-k : goal.invariant-loop-k
invariant-loop-k l =
    seen_in l.self.symbols.now l.self.graphs.now l.symbol l.graph l.k ≡ seen_in l.self.symbols.now l.self.graphs.now l.symbol l.graph l.both
