-- The test's promise and the text's, put together. Assumes nothing.
use Rattle.steps.specs.Lent.{held}
use Rattle.answers.proofs.Stored.{test_printed}
use Rattle.answers.proofs.test_text.Goals as goal

pub returns-clause-printed : goal.returns-clause-printed
returns-clause-printed c =
    test_printed c.args.table.now c.args.limit (held c.args.store.now) c.test-report.result _ _ c.entries.ensures c.test-report.ensures.tested
    c.report_text.ensures
