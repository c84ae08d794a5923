-- What the demands give together, whatever the table: from a demand that says less one of these no longer follows. Assumes nothing.
use mathlib.Core.Bool.{true≢false}
use mathlib.Core.List.{List, Memᴰ}
use mathlib.Core.Logic.{◌↔◌}
use mathlib.Core.Path.{◌≡◌, sym, ap, ◌∙◌}
use Prim.Native.Nat.{ℕ}
use Rattle.grammar.specs.Table.{grammar_of}
use Rattle.trees.specs.Tree.{Tree}
use Rattle.trees.specs.Evaluator.{Evaluator}
use Rattle.rules.specs.declared.Answer.TheVariants.{OutOfRoom}
use Rattle.rules.specs.Passes.{Outcome}
use Rattle.verdict.specs.Demands.{Version, back, said, stored_pairs, RoomCounts, Finishes, NeverStill, StandsStillLeft, PassesFollowed}

-- where evaluators stand still with a value left over, none finishes
pub none_finishes : {bs : List ℕ} {t : Tree} → StandsStillLeft bs t → (ev : Evaluator (grammar_of bs) t) → ¬ Finishes bs t ev
none_finishes still ev finishes =
    let y = (still.each ev).one_left in
    true≢false (sym (finishes.computes y.0 y.1) ∙ y.2)

-- never to stand still is asked of each evaluator: any one shows that it is not met
pub each_asked : {bs : List ℕ} {t : Tree} → StandsStillLeft bs t → Evaluator (grammar_of bs) t → ¬ NeverStill bs t
each_asked still ev never = none_finishes still ev (never.each ev)

-- and of every state: where one stands still with a value left over, there is no way on
pub still_early : {bs : List ℕ} {t : Tree} → StandsStillLeft bs t → ¬ NeverStill bs t
still_early still never =
    let stuck = still.each still.some in
    let y = stuck.one_left in
    stuck.stops (never.goes_on _ y.0 y.1 y.2)

-- whoever has room stores the same pairs
pub same_pairs : {bs : List ℕ} {R S : ℕ} {o u : Outcome} → RoomCounts bs R o → RoomCounts bs S u
    → ¬ (said o ≡ OutOfRoom) → ¬ (said u ≡ OutOfRoom)
    → (q : ℕ × ℕ) → Memᴰ q (stored_pairs bs o) ↔ Memᴰ q (stored_pairs bs u)
same_pairs c d n m q = (λ h. (d.those m q).1 ((c.those n q).0 h), λ h. (c.those n q).1 ((d.those m q).0 h))

-- who follows the passes stores what they store
pub same_entries : (v : Version) → PassesFollowed v → (bs : List ℕ) (limit room : ℕ)
    → (v bs limit room).entries ≡ (back bs limit room).entries
same_entries v followed bs limit room = ap (λ (o : Outcome). o.entries) (followed bs limit room)
