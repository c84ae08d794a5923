-- Of the root's slots those count that its production says. Assumes nothing.
use mathlib.Core.Path.{refl}
use Prim.Native.Nat.{ℕ, ◌^◌, ◌<◌}
use native.Mathlib.Omega.{arith}
use borrow.Author.Rules.{rules}
use mir.Syntax.{w16}
use mir.Val.{Fits}
use lib.ListN.{get_or}
use Rattle.texts.proofs.Short.{root_short}
use Rattle.print.specs.Texts.{kids_in}
use Rattle.print.proofs.Page.root_line.Goals as goal

pub returns : goal.returns
returns c =
    let args = c.args in
    let fit : (i : ℕ) → get_or args.root i 0 < 2 ^ 16 = λ i. (let small : Fits w16 (get_or args.root i 0) = search rules in omega arith) in
    record {
      written = rw c.kids_in.ensures at c.put_root-self.ensures;
      short = root_short args.root (kids_in args.table.now args.p) (search rules) fit args.p (search rules);
      lent = refl;
    }
