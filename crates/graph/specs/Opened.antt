-- A name that opens the rules of the search and of the marks, for proofs that compute. Assumes nothing.
use Rattle.numbers.specs.Lists.{both, up_from}
use Rattle.grammar.specs.Grammar.{symbol_at}
use Rattle.grammar.specs.Refusal.{allowed}
use Rattle.graph.specs.Search.{into, level, first_from, between, least_between, path_of, nearer, nearest_to, circle_of}
use Rattle.graph.specs.Marks.{edge_into}
use Rattle.graph.specs.Trails.{trail_of}

-- to name this on an `unfolding` line is to open them
unfoldable pub opened_search : Unit {0}
unfolding both up_from symbol_at allowed into level first_from between least_between path_of nearer nearest_to circle_of edge_into trail_of
opened_search = tt
