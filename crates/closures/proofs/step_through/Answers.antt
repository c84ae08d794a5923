-- `closures::step_through` meets its contract. The loop's invariant: the first i rows are changed. Assumes nothing.
use mathlib.Core.Path.{◌≡◌, refl, ◌∙◌}
use mathlib.Core.List.{List, map, append-nil}
use Prim.Native.Nat.{ℕ}
use native.Mathlib.Omega.{arith}
use lib.ListN.{length}
use lib.Seq.{take-length, drop-length}
use Rattle.graph.specs.Rows.{through}
use Rattle.graph.specs.Parts.{map_first}
use Rattle.graph.proofs.Turns.{map_more}
use Rattle.closures.proofs.step_through.Goals as goal

map_all : (f : ℕ → ℕ) (rows : List ℕ) → map_first (length rows) f rows ≡ map f rows
map_all f rows = simp (take-length, drop-length, append-nil)

pub loop-i-init : goal.loop-i-init
loop-i-init c = refl

pub loop-i-preserved : goal.loop-i-preserved
loop-i-preserved c =
    let args = c.args in
    map_more (through args.k args.via) args.rows.now c.loop-i.i c.loop-i.invariant c.joined.ensures (omega arith)

pub returns : goal.returns
returns c = let e : c.loop-i.i ≡ length c.args.rows.now = omega arith in (rw e at c.loop-i.invariant) ∙ map_all (through c.args.k c.args.via) c.args.rows.now
