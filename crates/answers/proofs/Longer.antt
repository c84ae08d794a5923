-- No table has more than 58,904 bytes: of a longer input the first 58,905 bytes are refused as the whole is. Assumes nothing.
use mathlib.Core.Path.{◌≡◌, refl}
use mathlib.Core.Bool.{Bool, true, false, cond}
use mathlib.Core.List.{List}
use Prim.Native.Nat.{ℕ, ◌≤◌, ◌<◌}
use native.Mathlib.Decide.{dec_le}
use native.Mathlib.Omega.{arith}
use borrow.Author.Tests.{le-leb}
use lib.ListN.{length, take}
use lib.Seq.{length-take-le, take_all, get_or-take}
use Rattle.std.specs.Prelude.{Err}
use Rattle.numbers.proofs.Decides.{not_so}
use Rattle.grammar.specs.declared.Broken.TheVariants.{Rule}
use Rattle.grammar.specs.Refusal.{Checked, counts_ok, offsets_ok, refusal}
use Rattle.grammar.proofs.Decided.{counts_decide, offsets_decide}
use Rattle.rules.specs.declared.Answer.TheVariants.{Refused}
use Rattle.rules.specs.Passes.{outcome, no_root, empty}
use Rattle.rules.specs.Test.{test}
use Rattle.passes.proofs.Testing.{test_refused}
use Rattle.texts.specs.Lines.{kids_in, rest, printed}

same_counts : (n : ℕ) (bs : List ℕ) → 8 ≤ n → counts_ok (take n bs) ≡ counts_ok bs
unfolding counts_ok
same_counts n bs h =
    rw (
      get_or-take n bs 0 0 (omega arith),
      get_or-take n bs 1 0 (omega arith),
      get_or-take n bs 2 0 (omega arith),
      get_or-take n bs 3 0 (omega arith),
      get_or-take n bs 4 0 (omega arith),
      get_or-take n bs 5 0 (omega arith),
      get_or-take n bs 6 0 (omega arith),
      get_or-take n bs 7 0 (omega arith),
    )

by_counts : (counts offsets : Bool) (c : Checked) → (counts ≡ true → offsets ≡ false)
    → cond counts (cond offsets c (Err (Rule 3))) (Err (Rule 2)) ≡ Err (cond counts (Rule 3) (Rule 2))
by_counts true offsets c h = rw (h refl)
by_counts false offsets c h = refl

-- the counts decide
module _ (bs : List ℕ) (long : 58904 < length bs) where
  no_offsets : counts_ok bs ≡ true → offsets_ok bs ≡ false
  no_offsets c =
      let counts = (counts_decide bs).so c in
      not_so (offsets_decide bs) (λ offsets. omega arith)

  refused_by : refusal bs ≡ Err (cond (counts_ok bs) (Rule 3) (Rule 2))
  unfolding refusal
  refused_by = rw (le-leb 24 (length bs) (omega arith)) (by_counts (counts_ok bs) (offsets_ok bs) _ no_offsets)

  -- 2 or 3
  refused : (limit room : ℕ) → test bs limit room ≡ outcome (Refused (cond (counts_ok bs) (Rule 3) (Rule 2))) no_root empty 0
  refused limit room = test_refused bs limit room _ refused_by

-- What is printed of the first 58,905 bytes is what is printed of the whole input.
pub whole_input : (bs : List ℕ) (limit room : ℕ)
    → printed (kids_in (take 58905 bs)) (test (take 58905 bs) limit room) ≡ printed (kids_in bs) (test bs limit room)
unfolding printed rest
whole_input bs limit room = go (dec_le (length bs) 58905)
  where
    go : Dec (length bs ≤ 58905)
        → printed (kids_in (take 58905 bs)) (test (take 58905 bs) limit room) ≡ printed (kids_in bs) (test bs limit room)
    go (yes l) = rw (take_all 58905 bs l)
    go (no f) =
        let first : 58904 < length (take 58905 bs) = rw (length-take-le 58905 bs (omega arith)) (omega arith) in
        rw (refused (take 58905 bs) first limit room, refused bs (omega arith) limit room, same_counts 58905 bs (omega arith))
