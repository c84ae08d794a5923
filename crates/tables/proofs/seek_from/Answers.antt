-- `tables::seek_from` meets its contract. The steps that are left, from where the search stands, lead where all of them lead. Assumes nothing.
use mathlib.Core.Path.{◌≡◌, sym, ap, ◌∙◌}
use Prim.Native.Nat.{◌-◌, ◌^◌}
use native.Mathlib.Omega.{arith}
use Rattle.grammar.specs.Search.{further, seek}
use Rattle.grammar.proofs.Seeking.{further_ahead, further_inside, seek_none, seek_more, shifted}
use Rattle.tables.proofs.seek_from.Goals as goal

pub loop-k-preserved : goal.loop-k-preserved
loop-k-preserved c =
    let a = c.args in
    let bs = a.table.now in
    let k = c.loop-k.k in
    let at = c.loop-k.at in
    let edges = ap (λ h. h.edges) c.requires.0 in
    let e = c.step_further-at.ensures ∙ ap (λ s. further bs a.p s at) (shifted (k - 1) (omega arith)) in (
      omega (arith, further_ahead bs a.p (2 ^ (k - 1)) at),
      omega (arith, further_inside bs a.p (2 ^ (k - 1)) at (omega arith)),
      ap (seek (k - 1) bs a.p) e ∙ sym (seek_more bs a.p at k (omega arith)) ∙ c.loop-k.invariant.2,
    )

pub returns : goal.returns
returns c =
    let a = c.args in
    let k : c.loop-k.k ≡ 0 = omega arith in (
      sym (seek_none a.table.now a.p c.loop-k.at) ∙ ap (λ k. seek k a.table.now a.p c.loop-k.at) (sym k) ∙ c.loop-k.invariant.2,
      c.loop-k.invariant.0,
      c.loop-k.invariant.1,
    )
