-- `steps::Store::put` meets its contract. Assumes nothing.
use mathlib.Core.Path.{◌≡◌, sym, ap, ◌∙◌}
use mathlib.Core.List.{List}
use Prim.Native.Nat.{ℕ, ◌<◌, ◌*◌, ◌+◌, ◌-◌, ◌≤◌}
use native.Mathlib.Omega.{arith}
use lib.ListN.{set, length, take, drop, length-take, length-drop}
use Rattle.steps.specs.Slices.{slices, room_of}
use Rattle.steps.specs.Lent.{held, read}
use Rattle.steps.proofs.Held.{put_held, part_put}
use Rattle.steps.proofs.Store.put.Goals as goal

pub returns-then-i-room-clause-put : goal.returns-then-i-room-clause-put
returns-then-i-room-clause-put c =
    let σ = held c.args.self.now in
    let i = c.args.i in
    let e = c.args.entry in
    let same : read c.entries.result ≡ σ = c.entries.ensures in
    let roomy : i < room_of σ = omega (arith, c.if-i-room.true, c.room.ensures, ap room_of same) in
    let fits : 7 * i + 7 ≤ length σ.kids = omega arith in
    let len : length e.kids ≡ length (take (7 * i + 7 - 7 * i) (drop (7 * i) σ.kids)) =
    sym (ap length c.copy_from_slice.ensures.after) ∙ c.copy_from_slice.ensures.len in
    let seven : length e.kids ≡ 7 = omega (arith, len, length-take (7 * i + 7 - 7 * i) (drop (7 * i) σ.kids), length-drop (7 * i) σ.kids) in
    ap (λ (l : List ℕ). slices (set σ.symbols i e.symbol) (set σ.graphs i e.graph) (set σ.productions i e.production) l)
    (part_put σ.kids e.kids _ (7 * i) _ c.copy_from_slice.ensures.after (omega (arith, seven)) (omega (arith, seven, fits)))
    ∙ sym (put_held σ i e roomy)
