-- A result that is true exactly if a statement holds, and when two reports are the same. Assumes nothing.
use mathlib.Core.Path.{◌≡◌, refl, sym}
use mathlib.Core.Bool.{Bool, true, false}
use mathlib.Core.Logic.{◌↔◌}
use borrow.Author.Rules.{rules}
use Rattle.rules.specs.declared.Report.{Report}
use Rattle.rules.specs.contracts.ReportPartialEq.TheImpl as report

-- two results that are true exactly if the same holds
pub one_truth : {P : Type 0} (x y : Bool) → (x ≡ true) ↔ P → (y ≡ true) ↔ P → x ≡ y
one_truth true y a b = sym (b.1 (a.0 refl))
one_truth false true a b = a.1 (b.0 refl)
one_truth false false a b = refl

-- what `==` says of two reports
pub same_report : (x y : Report) (b : Bool) → b ≡ report.eq-value.it x y → (b ≡ true) ↔ (x ≡ y)
same_report x y b e = search rules
