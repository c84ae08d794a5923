-- `walks::takes_part` meets its contract. Assumes nothing.
use mathlib.Core.Path.{◌≡◌, sym, ap, ◌∙◌}
use Prim.Native.Nat.{ℕ, min}
use borrow.Author.Rules.{rules}
use lib.ListN.{length}
use Rattle.numbers.specs.Lists.{every}
use Rattle.numbers.proofs.Parts.{take_clipped}
use Rattle.parts.specs.Sets.{has}
use Rattle.walks.proofs.Steps.{takes_not, takes_by}
use Rattle.walks.proofs.takes_part.Goals as goal

pub returns-then-has : goal.returns-then-has
returns-then-has c =
    let p = c.args.production in
    let T = c.args.treed.now.words in
    let seven : length p.slots ≡ 7 = search rules in
    let clipped = c.min-count.ensures ∙ ap (λ (n : ℕ). min n 7) c.from.ensures ∙ ap (min p.n) (sym seven) in
    c.has_each.ensures ∙ ap (every (has T)) (take_clipped p.n c.min-count.result p.slots clipped)
    ∙ takes_by T c.args.reached.now.words p (sym c.has.ensures ∙ c.if-has.true)

pub returns-else-has : goal.returns-else-has
returns-else-has c =
    let e = c.if-has.false in
    e ∙ takes_not c.args.treed.now.words c.args.reached.now.words c.args.production (sym c.has.ensures ∙ e)
