-- What the parts of the check answer. What is promised of the whole check does not speak of it. Assumes nothing.
use Rattle.std.specs.Prelude.{List, ℕ}
use Rattle.grammar.specs.Table.{N, P, E, grammar_of}
use Rattle.grammar.specs.Refusal.{Checked, symbol_rule, production_rule, edge_rule, first_bad}

-- ---- the three tables of records, each by its first bad one

abbrev pub symbols_check : List ℕ → Checked
symbols_check bs = first_bad (symbol_rule bs) 0 (N bs)

abbrev pub productions_check : List ℕ → Checked
productions_check bs = first_bad (production_rule bs) 0 (P bs)

abbrev pub edges_check : List ℕ → Checked
edges_check bs = first_bad (edge_rule (grammar_of bs)) 0 (E bs)
