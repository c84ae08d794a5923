-- Each turn has one link more behind it. Assumes nothing.
use Prim.Native.Nat.{◌*◌}
use lib.ListN.{take}
use Rattle.texts.specs.Lines.{links_text}
use Rattle.print.specs.Texts.{link_bytes, Placed}
use Rattle.print.proofs.Page.links.Given as goal

abbrev pub invariant-loop-i : goal.invariant-loop-i
invariant-loop-i l = Placed (links_text (take l.i l.circle.nodes) (take l.i l.circle.marks)) (link_bytes * l.i) l.initial.self l.self
