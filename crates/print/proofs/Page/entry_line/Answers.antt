-- The entry's numbers are in the slices. Assumes nothing.
use mathlib.Core.Path.{◌≡◌, refl, ◌∙◌}
use Prim.Native.Nat.{ℕ, ◌^◌, ◌≤◌, ◌<◌}
use native.Mathlib.Omega.{arith}
use borrow.Author.Rules.{rules}
use mir.Syntax.{w16}
use mir.Val.{Fits}
use lib.ListN.{length, get_or}
use Rattle.lines.specs.Buffer.{line_bytes}
use Rattle.texts.proofs.Short.{entry_short}
use Rattle.steps.specs.Lent.{read}
use Rattle.steps.specs.Slices.{entry_at}
use Rattle.steps.proofs.Held.{entry_held}
use Rattle.print.specs.Texts.{entry_text}
use Rattle.print.proofs.Page.entry_line.Goals as goal

pub returns : goal.returns
returns c =
    let n = c.kids_in in
    let a = c.args in
    let is : c.entry-entry.result ≡ entry_at (read a.entries) a.i = c.entry-entry.ensures ∙ entry_held _ a.i c.requires in
    -- what was read is an entry, so its line is short
    let e = c.entry-entry.result in
    let seven : length e.kids ≡ 7 = search rules in
    let fit : (j : ℕ) → get_or e.kids j 0 < 2 ^ 16 = λ j. (let small : Fits w16 (get_or e.kids j 0) = search rules in omega arith) in
    let short : length (entry_text (λ p. n.result) a.i e) ≤ line_bytes =
    entry_short e.kids n.result seven fit a.i e.symbol e.production e.graph (omega arith) (search rules) (search rules) (search rules) in
    record { written = rw (n.ensures, is) at c.put_entry-self.ensures; short = rw (n.ensures, is) at short; lent = refl }
