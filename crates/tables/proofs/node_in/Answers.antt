-- `tables::node_in` meets its contract. Assumes nothing.
use Rattle.tables.proofs.node_in.Goals as goal

pub returns : goal.returns
returns c = λ i. record { occurrence = c.byte_at.ensures i; attribute = c.byte_at-2.ensures i }
