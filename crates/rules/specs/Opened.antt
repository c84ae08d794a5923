-- A name that opens every rule, for proofs that compute. Assumes nothing.
use Rattle.numbers.specs.Lists.{both, every, keep, below, up_from}
use Rattle.grammar.specs.Grammar.{symbol_at}
use Rattle.grammar.specs.Table.{symbol_in, production_in, edge_in, edges_in, grammar_of}
use Rattle.grammar.specs.Refusal.{counts_ok, offsets_ok, symbol_ok, production_ok, allowed, occurrences_ok, attributes_ok, target_ok, in_order, or_rule, edge_read, first_bad, and_check, refusal}
use Rattle.graph.specs.Rows.{link, own, placed_to, placed_from, compound, through, step, steps_to, closure, circle_to, root_to}
use Rattle.graph.specs.Opened.{opened_search}
use Rattle.parts.specs.Opened.{opened_parts}
use Rattle.rules.specs.Passes.{numbered, seven, candidates, prefixed, combinations, known, stop_if, go_on_if, try, tries, turn, pass, passes_from, passes}
use Rattle.rules.specs.Fresh.{began, stale, unstale, fresh_turn, fresh_pass, fresh_passes_from, fresh_passes}
use Rattle.rules.specs.Test.{system_of, after_check, test}

-- to name this on an `unfolding` line is to open every rule
unfoldable pub opened : Unit {0}
unfolding both up_from every keep below symbol_at symbol_in production_in edge_in edges_in grammar_of counts_ok offsets_ok symbol_ok production_ok allowed occurrences_ok attributes_ok target_ok in_order or_rule edge_read first_bad and_check refusal link own placed_to placed_from compound through step steps_to closure circle_to root_to opened_search opened_parts numbered seven candidates prefixed combinations known stop_if go_on_if try tries turn pass passes_from passes began stale unstale fresh_turn fresh_pass fresh_passes_from fresh_passes system_of after_check test
opened = tt
