-- `walks::SymbolSet::add` meets its contract. Assumes nothing.
use mathlib.Core.Path.{sym, subst}
use native.Mathlib.Omega.{arith}
use borrow.Author.Tests.{le-ltb, lt-ltb}
use Rattle.parts.proofs.Sets.{IsSet, add_past, add_set}
use Rattle.walks.proofs.Steps.{add_there}
use Rattle.walks.proofs.SymbolSet.add.Goals as goal

pub returns-then-s-ge-MOST_SYMBOLS : goal.returns-then-s-ge-MOST_SYMBOLS
returns-then-s-ge-MOST_SYMBOLS c =
    let self = c.args.self.now in
    (sym (add_past self.words c.args.s self.is_set (omega arith)), sym (le-ltb c.args.s 256 (omega arith)))

pub invariant_of-self : goal.invariant_of-self
invariant_of-self c =
    let self = c.args.self.now in
    record { is_set = subst IsSet (sym (add_there self.words c.args.s)) (add_set self.words c.args.s self.is_set) }

pub returns : goal.returns
returns c = (add_there c.args.self.now.words c.args.s, sym (lt-ltb c.args.s 256 (omega arith)))
