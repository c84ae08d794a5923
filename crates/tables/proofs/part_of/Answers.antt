-- `tables::part_of` meets its contract. Assumes nothing.
use mathlib.Core.Path.{◌≡◌, ap, ap₂, ◌∙◌}
use Prim.Native.Nat.{◌+◌, ◌-◌}
use native.Mathlib.Omega.{arith}
use lib.ListN.{take, drop}
use Rattle.numbers.proofs.Parts.{clipped}
use Rattle.tables.proofs.part_of.Goals as goal

pub returns : goal.returns
returns c =
    let args = c.args in
    let bs = args.table.now in
    let size : args.at + args.size - args.at ≡ args.size = omega arith in
    ap₂ (λ a e. take (e - a) (drop a bs)) c.smaller.ensures c.smaller-2.ensures
    ∙ clipped bs args.at (args.at + args.size) (omega arith)
    ∙ ap (λ n. take n (drop args.at bs)) size
