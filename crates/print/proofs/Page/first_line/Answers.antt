use mathlib.Core.Path.{refl}
use borrow.Author.Rules.{rules}
use Rattle.texts.proofs.Short.{first_short}
use Rattle.print.proofs.Page.first_line.Goals as goal

pub returns : goal.returns
returns c =
    let good = c.well_formed in
    record {
      written = search rules;
      short =
          first_short _
          (record {
            rule = λ k e. let small = rw e at good.1.0.1.1.0 in search rules;
            of_record = λ k i e. let small = rw e at good.1.0.1.1.0 in search rules;
          })
          (search rules) (search rules) (search rules);
      lent = refl;
    }
