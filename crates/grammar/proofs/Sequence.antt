-- The checks in their order. Assumes nothing.
use mathlib.Core.Path.{◌≡◌}
use mathlib.Core.Bool.{true, false}
use mathlib.Core.List.{List}
use Prim.Native.Nat.{ℕ, ◌≤◌, ◌<◌}
use borrow.Author.Tests.{lt-leb, le-leb}
use lib.ListN.{length}
use Rattle.std.specs.Prelude.{Ok, Err}
use Rattle.grammar.specs.declared.Broken.{Broken}
use Rattle.grammar.specs.declared.Broken.TheVariants.{Rule}
use Rattle.grammar.specs.Refusal.{Checked, counts_ok, offsets_ok, and_check, refusal}
use Rattle.grammar.specs.Steps.{symbols_check, productions_check, edges_check}

module _ (bs : List ℕ) where
  pub refusal_one : length bs < 24 → refusal bs ≡ Err (Rule 1)
  unfolding refusal
  refusal_one h = simp (lt-leb _ _ h)

  module _ (h : 24 ≤ length bs) where
    pub refusal_two : counts_ok bs ≡ false → refusal bs ≡ Err (Rule 2)
    unfolding refusal
    refusal_two c = simp (le-leb _ _ h, c)

    module _ (c : counts_ok bs ≡ true) where
      pub refusal_three : offsets_ok bs ≡ false → refusal bs ≡ Err (Rule 3)
      unfolding refusal
      refusal_three o = simp (le-leb _ _ h, c, o)

      pub refusal_records : offsets_ok bs ≡ true → refusal bs ≡ and_check (symbols_check bs) (and_check (productions_check bs) (edges_check bs))
      unfolding refusal
      refusal_records o = simp (le-leb _ _ h, c, o)

-- the second check is made exactly where the first finds nothing
pub and_good : {a : Checked} (b : Checked) → a ≡ Ok tt → and_check a b ≡ b
unfolding and_check
and_good b e = rw e

pub and_bad : {a : Checked} (b : Broken) (next : Checked) → a ≡ Err b → a ≡ and_check a next
unfolding and_check
and_bad b next e = rw e
