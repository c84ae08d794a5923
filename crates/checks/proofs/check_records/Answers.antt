-- `checks::check_records` meets its contract. What the records from i on say is what all of them say. Assumes nothing.
use Rattle.std.proofs.Common.{rules, ◌≡◌, arith, ◌∙◌}
use Rattle.grammar.proofs.First.{first_ends, first_goes, first_stops}
use Rattle.checks.proofs.check_records.Goals as goal

pub returns-in_err-handed_up : goal.returns-in_err-handed_up
returns-in_err-handed_up g c = λ said h.
    let here : c.read.result ≡ said c.loop-i.i = rw c.from.ensures at (h c.from.result (omega arith) c.read.result c.read.ensures) in
    first_stops said c.args.count c.loop-i.i c.loop-i-test.true here (c.loop-i.invariant said h) (search rules)

pub loop-i-preserved : goal.loop-i-preserved
loop-i-preserved g c = λ said h.
    let here : c.read.result ≡ said c.loop-i.i = rw c.from.ensures at (h c.from.result (omega arith) c.read.result c.read.ensures) in
    first_goes said c.args.count c.loop-i.i c.loop-i-test.true here (c.loop-i.invariant said h) c.in_ok-handed_up.field-0 (search rules)

pub returns : goal.returns
returns g c = λ said h. first_ends said c.args.count c.loop-i.i c.loop-i-test.false ∙ c.loop-i.invariant said h
