-- `reads::production_ok` meets its contract. Assumes nothing.
use Rattle.reads.proofs.Slots.{bounds_bad, rights_bad, spare_tells}
use Rattle.reads.proofs.production_ok.Goals as goal

pub returns-then-symbols-p : goal.returns-then-symbols-p
returns-then-symbols-p c = bounds_bad c.args.symbols _ c.args.p c.from-n.ensures c.then-symbols-p.either

pub returns-then-slots_below : goal.returns-then-slots_below
returns-then-slots_below c =
    spare_tells c.args.symbols _ c.args.p c.from-n.ensures c.if-symbols-p.false c.if-n-gt-SLOTS.false c.slots_below.ensures c.if-slots_below.true c.slots_below-then-slots_below.ensures

pub returns-else-slots_below : goal.returns-else-slots_below
returns-else-slots_below c = rights_bad c.args.symbols _ c.args.p c.from-n.ensures c.slots_below.ensures c.if-slots_below.false
