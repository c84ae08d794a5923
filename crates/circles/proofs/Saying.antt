-- Of a table that is not refused, what the code finds is the circle of the root's compound graph. Assumes nothing.
use mathlib.Core.Path.{◌≡◌, sym, ap, ◌∙◌}
use mathlib.Core.List.{List, map}
use Prim.Native.Nat.{ℕ, suc, ◌*◌}
use native.Mathlib.Omega.{arith}
use lib.ListN.{length, get_or, take, length-map, length-take}
use Rattle.std.specs.Prelude.{Ok}
use Rattle.grammar.specs.Grammar.{Grammar, production, edges_of}
use Rattle.grammar.specs.Table.{grammar_of}
use Rattle.grammar.specs.Refusal.{refusal}
use Rattle.graph.specs.Rows.{compound}
use Rattle.graph.specs.Search.{circle_of}
use Rattle.graph.specs.Marks.{masks_of}
use Rattle.graph.specs.Trails.{filled_up, circle_trail}
use Rattle.graph.proofs.Tables.{few_rights, run_made}
use Rattle.graph.proofs.Trails.{trail_filled}
use Rattle.circles.specs.Ring.{rights_in, masks_in, rows_in, ring_in}

module _ (bs : List ℕ) (good : refusal bs ≡ Ok tt) (p : ℕ) where
  abbrev g : Grammar
  g = grammar_of bs

  few : rights_in (production g p) ≡ (production g p).n
  few = omega (arith, few_rights bs good p)

  masks_are : masks_in g (production g p) ≡ filled_up 8 (masks_of g (production g p))
  unfolding masks_in
  masks_are = rw few

  -- the graphs gs are those in the slots that count
  pub ring_said : (graphs root gs : List ℕ) → length root ≡ 7 → map (λ i. get_or graphs i 0) (take (production g p).n root) ≡ gs
      → ring_in bs graphs p root ≡ circle_trail 8 (masks_of g (production g p)) (circle_of (compound 8 (edges_of g p) gs))
  unfolding ring_in
  ring_said graphs root gs seven e =
      let n = (production g p).n in
      let long : length gs ≡ n =
      ap length (sym e) ∙ length-map (take n root) (λ i. get_or graphs i 0) ∙ omega (arith, length-take n root, few_rights bs good p) in
      let rows : take (8 * suc n) (rows_in bs graphs p n root) ≡ compound 8 (edges_of g p) gs =
      rw (e, sym long) (run_made bs good p gs long) in
      let c = circle_of (compound 8 (edges_of g p) gs) in
      rw (few, rows, masks_are) (trail_filled 8 (masks_of g (production g p)) 8 c (get_or c 0 0))
