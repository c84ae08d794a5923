-- `walks::SpreadStep::is_done` meets its contract. Assumes nothing.
use mathlib.Core.Path.{◌≡◌, sym, subst}
use borrow.Author.Rules.{rules}
use Rattle.parts.proofs.Sets.{In}
use Rattle.parts.proofs.Rule.{both_in}
use Rattle.walks.proofs.SpreadStep.is_done.Goals as goal

pub returns : goal.returns
returns c e p pass s m =
    let A = c.args.set.now.words in
    let T = c.args.self.now.trees.now.words in
    let same : A ≡ T = search rules in
    subst (λ B. In B s) (sym same) (((both_in T A p).so pass).1 s m)
