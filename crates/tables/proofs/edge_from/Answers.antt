-- `tables::edge_from` meets its contract. Assumes nothing.
use Rattle.grammar.specs.Table.{edge_in}
use Rattle.tables.proofs.edge_from.Goals as goal

pub returns : goal.returns
unfolding edge_in
returns c =
    λ i. record { production = c.two_at.ensures i; source = c.node_in-source.ensures i; target = c.node_in-target.ensures i }
