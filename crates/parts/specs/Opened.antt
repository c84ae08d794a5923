-- A name that opens the rule, for proofs that compute. Assumes nothing.
use Rattle.numbers.specs.Lists.{both, every, keep, up_from}
use Rattle.parts.specs.Sets.{has, add, add_all, add_if, same_sets}
use Rattle.parts.specs.Rule.{walk, again, grown_out, grown, treed, begun, spread, reached, takes_part, taking}

-- to name this on an `unfolding` line is to open the whole rule
unfoldable pub opened_parts : Unit {0}
unfolding both every keep up_from has add add_all add_if same_sets walk again grown_out grown treed begun spread reached takes_part taking
opened_parts = tt
