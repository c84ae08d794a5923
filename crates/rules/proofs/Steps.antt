-- The six steps by their four tests, for proofs that go through the cases. Assumes nothing.
use mathlib.Core.Bool.{Bool}
use mathlib.Core.List.{List}
use Prim.Native.Nat.{ℕ}
use Rattle.rules.specs.declared.Answer.TheVariants.{Circular}
use Rattle.rules.specs.Passes.{State, Ran, going, numbered, no_root, stop_if, go_on_if, counted}

-- the tests of the steps 1, 3, 4 and 5; `u` is the state in which step 6 goes on
abbrev pub by_tests : Bool → Bool → Bool → Bool → ℕ → List ℕ → State → State → Ran
by_tests spent circle old full p root s u =
    stop_if spent (numbered 8) no_root s
    (stop_if circle (Circular p) root (counted s) (go_on_if old (counted s) (stop_if full (numbered 9) no_root (counted s) (going u))))
