-- `closures::joined` meets its contract. Assumes nothing.
use mathlib.Core.Path.{◌≡◌}
use Prim.Native.Nat.{◌/◌, ◌^◌}
use native.Mathlib.Omega.{arith}
use lib.Bits.{and_mask}
use Rattle.numbers.specs.Number.{bit}
use Rattle.graph.specs.Rows.{through}
use Rattle.closures.proofs.joined.Goals as goal

pub returns-then-row-k-eq1 : goal.returns-then-row-k-eq1
unfolding through
returns-then-row-k-eq1 c =
    let h : bit c.args.k c.args.row ≡ 1 = omega (arith, and_mask (c.args.row / 2 ^ c.args.k) 1) in
    rw h

pub returns-else-row-k-eq1 : goal.returns-else-row-k-eq1
unfolding through
returns-else-row-k-eq1 c =
    let h : bit c.args.k c.args.row ≡ 0 = omega (arith, and_mask (c.args.row / 2 ^ c.args.k) 1) in
    rw h
