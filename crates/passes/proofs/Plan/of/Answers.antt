-- `passes::Plan::of` meets its contract. Assumes nothing.
use Rattle.passes.proofs.Testing.{taking_is}
use Rattle.passes.proofs.Plan.of.Goals as goal

pub invariant_of-result : goal.invariant_of-result
invariant_of-result c =
    record {
      taken = c.requires;
      parts = taking_is c.args.table.now _ _ c.requires c.of.ensures.0 c.of.ensures.1;
    }
