-- `edges::read_edge` meets its contract: each return by the tests that led there. Assumes nothing.
use mathlib.Core.Path.{sym, ◌∙◌}
use native.Mathlib.Omega.{arith}
use Rattle.grammar.specs.Table.{grammar_of}
use Rattle.grammar.proofs.Lookups.{count_in}
use Rattle.edges.proofs.Asked.{there, not_there, found, occurrences_told, attributes_told, target_told, ten, eleven, twelve, thirteen, seven, whole}
use Rattle.edges.proofs.read_edge.Goals as goal

pub returns-then-header_of-e : goal.returns-then-header_of-e
returns-then-header_of-e c =
    let bs = c.args.table.now in
    ten bs c.args.i c.args.before c.edge_at-e.ensures (not_there bs c.edge_at-e.result c.header_of.ensures c.if-header_of-e.true)

pub returns-then-not-occurrences_ok : goal.returns-then-not-occurrences_ok
returns-then-not-occurrences_ok c =
    let bs = c.args.table.now in
    let h = there bs c.edge_at-e.result c.header_of.ensures c.if-header_of-e.false in
    let p = found bs c.edge_at-e.result c.offsets_of.ensures c.from.ensures h in
    let o = occurrences_told (grammar_of bs) c.edge_at-e.result p (c.two_at-n.ensures ∙ count_in bs _) c.occurrences_ok.ensures in
    eleven bs c.args.i c.args.before c.edge_at-e.ensures h (o ∙ c.if-not-occurrences_ok.true)

pub symbol_at-s-requires : goal.symbol_at-s-requires
symbol_at-s-requires c = (omega arith, c.two_at-n.ensures ∙ count_in c.args.table.now _)

pub symbol_at-t-requires : goal.symbol_at-t-requires
symbol_at-t-requires c = (omega arith, c.two_at-n.ensures ∙ count_in c.args.table.now _)

pub returns-then-not-attributes_ok : goal.returns-then-not-attributes_ok
returns-then-not-attributes_ok c =
    let bs = c.args.table.now in
    let h = there bs c.edge_at-e.result c.header_of.ensures c.if-header_of-e.false in
    let p = found bs c.edge_at-e.result c.offsets_of.ensures c.from.ensures h in
    let o = occurrences_told (grammar_of bs) c.edge_at-e.result p (c.two_at-n.ensures ∙ count_in bs _) c.occurrences_ok.ensures in
    let a = attributes_told (grammar_of bs) c.edge_at-e.result p c.symbol_at-s.ensures c.symbol_of-source.ensures c.symbol_at-t.ensures c.symbol_of-target.ensures c.attributes_ok.ensures in
    twelve bs c.args.i c.args.before c.edge_at-e.ensures h (o ∙ c.if-not-occurrences_ok.false) (a ∙ c.if-not-attributes_ok.true)

pub returns-then-not-target_ok : goal.returns-then-not-target_ok
returns-then-not-target_ok c =
    let bs = c.args.table.now in
    let h = there bs c.edge_at-e.result c.header_of.ensures c.if-header_of-e.false in
    let p = found bs c.edge_at-e.result c.offsets_of.ensures c.from.ensures h in
    let o = occurrences_told (grammar_of bs) c.edge_at-e.result p (c.two_at-n.ensures ∙ count_in bs _) c.occurrences_ok.ensures in
    let a = attributes_told (grammar_of bs) c.edge_at-e.result p c.symbol_at-s.ensures c.symbol_of-source.ensures c.symbol_at-t.ensures c.symbol_of-target.ensures c.attributes_ok.ensures in
    let t = target_told (grammar_of bs) c.edge_at-e.result p c.symbol_at-s.ensures c.symbol_of-source.ensures c.symbol_at-t.ensures c.symbol_of-target.ensures c.target_ok.ensures in
    thirteen bs c.args.i c.args.before c.edge_at-e.ensures h (o ∙ c.if-not-occurrences_ok.false) (a ∙ c.if-not-attributes_ok.false) (t ∙ c.if-not-target_ok.true)

pub returns-then-not-in_order : goal.returns-then-not-in_order
returns-then-not-in_order c =
    let bs = c.args.table.now in
    let h = there bs c.edge_at-e.result c.header_of.ensures c.if-header_of-e.false in
    let p = found bs c.edge_at-e.result c.offsets_of.ensures c.from.ensures h in
    let o = occurrences_told (grammar_of bs) c.edge_at-e.result p (c.two_at-n.ensures ∙ count_in bs _) c.occurrences_ok.ensures in
    let a = attributes_told (grammar_of bs) c.edge_at-e.result p c.symbol_at-s.ensures c.symbol_of-source.ensures c.symbol_at-t.ensures c.symbol_of-target.ensures c.attributes_ok.ensures in
    let t = target_told (grammar_of bs) c.edge_at-e.result p c.symbol_at-s.ensures c.symbol_of-source.ensures c.symbol_at-t.ensures c.symbol_of-target.ensures c.target_ok.ensures in
    seven bs c.args.i c.args.before c.edge_at-e.ensures h (o ∙ c.if-not-occurrences_ok.false) (a ∙ c.if-not-attributes_ok.false) (t ∙ c.if-not-target_ok.false) (sym c.in_order.ensures ∙ c.if-not-in_order.true)

pub returns : goal.returns
returns c =
    let bs = c.args.table.now in
    let h = there bs c.edge_at-e.result c.header_of.ensures c.if-header_of-e.false in
    let p = found bs c.edge_at-e.result c.offsets_of.ensures c.from.ensures h in
    let o = occurrences_told (grammar_of bs) c.edge_at-e.result p (c.two_at-n.ensures ∙ count_in bs _) c.occurrences_ok.ensures in
    let a = attributes_told (grammar_of bs) c.edge_at-e.result p c.symbol_at-s.ensures c.symbol_of-source.ensures c.symbol_at-t.ensures c.symbol_of-target.ensures c.attributes_ok.ensures in
    let t = target_told (grammar_of bs) c.edge_at-e.result p c.symbol_at-s.ensures c.symbol_of-source.ensures c.symbol_at-t.ensures c.symbol_of-target.ensures c.target_ok.ensures in
    whole bs c.args.i c.args.before c.edge_at-e.ensures h (o ∙ c.if-not-occurrences_ok.false) (a ∙ c.if-not-attributes_ok.false) (t ∙ c.if-not-target_ok.false) (sym c.in_order.ensures ∙ c.if-not-in_order.false)
