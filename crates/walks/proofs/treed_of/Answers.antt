-- `walks::treed_of` meets its contract. Assumes nothing.
use mathlib.Core.Path.{sym, ap, ◌∙◌}
use borrow.Author.Tests.{leb-true}
use Rattle.grammar.specs.Table.{grammar_of}
use Rattle.parts.specs.Rule.{walk, grown_out, grown, treed}
use Rattle.parts.proofs.Tables.{set_short, set_whole}
use Rattle.walks.proofs.treed_of.Goals as goal

pub grown_out-requires : goal.grown_out-requires
grown_out-requires c = leb-true _ _ (sym c.is_whole.ensures ∙ c.if-is_whole.true)

pub returns-then-is_whole : goal.returns-then-is_whole
unfolding treed grown
returns-then-is_whole c =
    c.grown_out.ensures ∙ ap (grown_out (walk grown (grammar_of c.args.table.now).productions)) c.empty.ensures
    ∙ set_whole _ _ (sym c.is_whole.ensures ∙ c.if-is_whole.true)

pub returns-else-is_whole : goal.returns-else-is_whole
returns-else-is_whole c = c.empty-else-is_whole.ensures ∙ set_short _ _ (sym c.is_whole.ensures ∙ c.if-is_whole.false)
