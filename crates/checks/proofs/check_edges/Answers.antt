-- `checks::check_edges` meets its contract. What the edges from i on say, after the edge before them, is what all of them say. Assumes nothing.
use Rattle.std.proofs.Common.{rules, ◌≡◌, sym, ap, arith, ◌∙◌, ◌+◌, ◌-◌, ◌<◌, Ok}
use Rattle.grammar.specs.Table.{E, grammar_of}
use Rattle.grammar.specs.Refusal.{edge_rule}
use Rattle.grammar.proofs.First.{first_ends, first_goes, first_stops}
use Rattle.grammar.proofs.Handing.{reads_edge, edge_kept}
use Rattle.checks.proofs.check_edges.Goals as goal

pub returns-in_err-before : goal.returns-in_err-before
returns-in_err-before c =
    let bs = c.args.table.now in
    let i = c.loop-i.i in
    let many : c.header_of-i-end.result.edges ≡ E bs = ap (λ h. h.edges) c.header_of-i-end.ensures in
    let l : i < E bs = omega arith in
    let here : c.read_edge.result ≡ edge_rule (grammar_of bs) i = (rw c.from.ensures at c.read_edge.ensures) ∙ reads_edge bs c.loop-i.before i l (c.loop-i.invariant.0 l) in
    first_stops (edge_rule (grammar_of bs)) (E bs) i l here c.loop-i.invariant.1 (search rules)

pub loop-i-preserved : goal.loop-i-preserved
loop-i-preserved c =
    let bs = c.args.table.now in
    let i = c.loop-i.i in
    let many : c.header_of-i-end.result.edges ≡ E bs = ap (λ h. h.edges) c.header_of-i-end.ensures in
    let l : i < E bs = omega arith in
    let here : c.read_edge.result ≡ edge_rule (grammar_of bs) i = (rw c.from.ensures at c.read_edge.ensures) ∙ reads_edge bs c.loop-i.before i l (c.loop-i.invariant.0 l) in
    let e : c.read_edge.result ≡ Ok c.in_ok-before.before = search rules in
    let same = edge_kept (grammar_of bs) i _ _ _ (sym here ∙ e) in
    let back : i + 1 - 1 ≡ i = omega arith in
    (λ u z. rw back same, first_goes (edge_rule (grammar_of bs)) (E bs) i l here c.loop-i.invariant.1 c.in_ok-before.before e)

pub returns : goal.returns
returns c =
    let bs = c.args.table.now in
    let many : c.header_of-i-end.result.edges ≡ E bs = ap (λ h. h.edges) c.header_of-i-end.ensures in
    first_ends (edge_rule (grammar_of bs)) (E bs) c.loop-i.i (omega arith) ∙ c.loop-i.invariant.1
