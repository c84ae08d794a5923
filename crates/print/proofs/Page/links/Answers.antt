-- Each turn has one link more behind it. Assumes nothing.
use mathlib.Core.Path.{◌≡◌, refl}
use mir.Syntax.{w8}
use mir.Val.{Fits}
use Prim.Native.Nat.{min}
use native.Mathlib.Omega.{arith}
use lib.ListN.{length, get_or}
use borrow.Author.Rules.{rules}
use Rattle.numbers.proofs.Parts.{take_clipped}
use Rattle.texts.specs.Lines.{links_text}
use Rattle.texts.proofs.Short.{link_short}
use Rattle.texts.proofs.Spaced.{one_link_more}
use Rattle.print.proofs.Placing.{nothing, within, then}
use Rattle.print.proofs.Page.links.Goals as goal

pub loop-i-init : goal.loop-i-init
unfolding links_text
loop-i-init c = nothing c.args.self.now (omega arith)

pub loop-i-preserved : goal.loop-i-preserved
loop-i-preserved c =
    let circle = c.args.circle in
    let i = c.loop-i.i in
    let nodes : length circle.nodes ≡ 64 = search rules in
    let marks : length circle.marks ≡ 64 = search rules in
    let node : Fits w8 (get_or circle.nodes i 0) = search rules in
    within (one_link_more circle.nodes circle.marks i (omega arith) (omega arith)) (omega arith)
    (then (omega arith) c.loop-i.invariant (record { written = c.put_link-self.ensures; short = link_short _ _ (omega arith); lent = refl }))

pub returns : goal.returns
returns c =
    let circle = c.args.circle in
    let i = c.loop-i.i in
    let nodes : length circle.nodes ≡ 64 = search rules in
    let marks : length circle.marks ≡ 64 = search rules in
    let all : i ≡ min circle.len (length circle.nodes) = omega arith in
    let each : i ≡ min circle.len (length circle.marks) = omega arith in
    within (rw (take_clipped circle.len i circle.nodes all, take_clipped circle.len i circle.marks each)) (omega arith)
    c.loop-i.invariant
