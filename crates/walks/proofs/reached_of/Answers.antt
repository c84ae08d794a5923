-- `walks::reached_of` meets its contract. Assumes nothing.
use mathlib.Core.Path.{sym, ap, ◌∙◌}
use borrow.Author.Tests.{leb-true}
use Rattle.grammar.specs.Table.{grammar_of}
use Rattle.parts.specs.Rule.{walk, grown_out, begun, spread, reached}
use Rattle.parts.proofs.Tables.{start_is, set_short, set_whole}
use Rattle.walks.proofs.reached_of.Goals as goal

pub grown_out-requires : goal.grown_out-requires
grown_out-requires c = leb-true _ _ (sym c.is_whole.ensures ∙ c.if-is_whole.true)

pub returns-then-is_whole : goal.returns-then-is_whole
unfolding reached spread
returns-then-is_whole c =
    let T = c.args.treed.now.words in
    let from = c.begin-begun.ensures ∙ ap (begun T) (ap (λ x. x.start) c.header_of.ensures ∙ sym (start_is c.args.table.now)) in
    c.grown_out.ensures ∙ ap (grown_out (walk (spread T) (grammar_of c.args.table.now).productions)) from
    ∙ set_whole _ _ (sym c.is_whole.ensures ∙ c.if-is_whole.true)

pub returns-else-is_whole : goal.returns-else-is_whole
returns-else-is_whole c = c.empty.ensures ∙ set_short _ _ (sym c.is_whole.ensures ∙ c.if-is_whole.false)
