-- `circles::masks_of` meets its contract. The invariant: the masks of the occurrences passed stand in their places. Assumes nothing.
use mathlib.Core.Path.{◌≡◌, refl, sym, ap, ◌∙◌}
use mathlib.Core.List.{List, [], ◌∷◌, ◌++◌, map}
use Prim.Native.Nat.{ℕ, suc, ◌+◌, min}
use native.Mathlib.Omega.{arith}
use borrow.Author.Rules.{rules}
use Rattle.numbers.specs.Lists.{up_from}
use Rattle.numbers.proofs.Ranges.{length_up_from}
use Rattle.numbers.proofs.Keeping.{up_more}
use Rattle.grammar.specs.declared.Production.{Production}
use Rattle.grammar.specs.Grammar.{Grammar}
use Rattle.grammar.specs.Table.{grammar_of}
use Rattle.graph.specs.Trails.{filled_up}
use Rattle.graph.proofs.Trails.{none_filled, filled_map_more}
use Rattle.circles.specs.Ring.{rights_in, masks_in}
use Rattle.circles.proofs.masks_of.Invariants.{mask_at, masked_to}
use Rattle.circles.proofs.masks_of.Goals as goal

masked_none : (g : Grammar) (p : Production) → filled_up 8 [] ≡ masked_to g p 0
unfolding up_from
masked_none g p = refl

masked_more : (g : Grammar) (p : Production) (o : ℕ) → up_from 0 o ++ o ∷ [] ≡ up_from 0 (o + 1)
unfolding up_from
masked_more g p o = up_more o 1

masked_all : (g : Grammar) (p : Production) (n o : ℕ) → n ≡ rights_in p → o ≡ n + 1 → masked_to g p o ≡ masks_in g p
unfolding masks_in
masked_all g p n o e f =
    let h : o ≡ suc (rights_in p) = omega arith in
    ap (masked_to g p) h

pub loop-o-init : goal.loop-o-init
loop-o-init c = (search rules, sym (none_filled 8) ∙ masked_none (grammar_of c.args.table.now) c.args.production)

pub loop-o-preserved : goal.loop-o-preserved
loop-o-preserved c =
    let g = grammar_of c.args.table.now in
    let p = c.args.production in
    let rights : c.min-rights.result ≡ rights_in p = c.min-rights.ensures ∙ ap (λ (n : ℕ). min n 7) c.from.ensures in (
      omega (arith, c.loop-o-test.true),
      filled_map_more (mask_at g p) 8 (up_from 0 c.loop-o.o) c.loop-o.o c.loop-o.o c.loop-o.invariant.1 c.mask_at.ensures
          (length_up_from 0 c.loop-o.o) (omega arith)
          ∙ ap (λ (l : List ℕ). filled_up 8 (map (mask_at g p) l)) (masked_more g p c.loop-o.o),
    )

pub returns : goal.returns
returns c =
    let rights : c.min-rights.result ≡ rights_in c.args.production = c.min-rights.ensures ∙ ap (λ (n : ℕ). min n 7) c.from.ensures in
    c.loop-o.invariant.1
    ∙ masked_all (grammar_of c.args.table.now) c.args.production c.min-rights.result c.loop-o.o rights
    (omega arith)
