-- `circles::circle_of` meets its contract. Assumes nothing.
use mathlib.Core.Path.{◌≡◌, refl, ap, ◌∙◌}
use mathlib.Core.List.{List}
use Prim.Native.Nat.{ℕ, suc, ◌+◌, ◌*◌, min}
use native.Mathlib.Omega.{arith}
use lib.ListN.{take}
use Rattle.grammar.specs.declared.Production.{Production}
use Rattle.grammar.specs.Grammar.{production}
use Rattle.grammar.specs.Table.{grammar_of}
use Rattle.graph.specs.declared.Trail.{Trail}
use Rattle.graph.specs.Rows.{placed_from}
use Rattle.graph.specs.Search.{circle_of}
use Rattle.graph.specs.Trails.{circle_trail}
use Rattle.compounds.specs.Combination.{own_in, picked_graphs}
use Rattle.circles.specs.Ring.{rights_in, masks_in, rows_in, ring_in}
use Rattle.circles.proofs.circle_of.Goals as goal

-- what is found in the rows that are made, with the masks that are read
ring_made : (bs graphs : List ℕ) (p n occurrences : ℕ) (root rows masks : List ℕ) (q : Production) (r : Trail)
    → q ≡ production (grammar_of bs) p → n ≡ rights_in q → occurrences ≡ n + 1 → rows ≡ rows_in bs graphs p n root → masks ≡ masks_in (grammar_of bs) q
    → r ≡ circle_trail 8 masks (circle_of (take (8 * occurrences) rows)) → r ≡ ring_in bs graphs p root
unfolding ring_in
ring_made bs graphs p n occurrences root rows masks q r e f o l m h =
    let s : occurrences ≡ suc (rights_in q) = omega arith in
    h ∙ rw (s, l, m, f, e)

pub returns : goal.returns
returns c =
    ring_made c.args.table.now c.args.graphs.now c.args.number c.min-rights.result _ c.args.root _ _ _ _
    c.production_of-production.ensures
    (c.min-rights.ensures ∙ ap (λ (n : ℕ). min n 7) c.from.ensures)
    refl
    (c.compound.ensures
    ∙ ap (λ (l : List ℕ). placed_from 8 1 (picked_graphs c.args.graphs.now c.min-rights.result c.args.root) (own_in l)) c.run_of-run.ensures)
    c.masks_of-masks.ensures c.circle.ensures
