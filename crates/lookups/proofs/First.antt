-- What the promise of the lookup says, entry by entry. Assumes nothing.
use mathlib.Core.Path.{◌≡◌}
use mathlib.Core.Bool.{true, false}
use mathlib.Core.List.{List}
use Prim.Native.Nat.{ℕ, ◌+◌, ◌<◌}
use native.Mathlib.Omega.{arith}
use lib.ListN.{length}
use Rattle.std.specs.Prelude.{Option, None, Some}
use Rattle.std.specs.List.{position_or_len}
use Rattle.std.proofs.lemmas.Grind.{common_steps}
use Rattle.std.proofs.lemmas.List.Quantifiers.{position-Some}
use Rattle.std.proofs.lemmas.List.Sums.{fails_before_first}
use Rattle.rules.specs.declared.Entry.{Entry}
use Rattle.rules.specs.Passes.{no_entry, entry}
use Rattle.lookups.specs.Lookup.{of, first_of}

-- k is the number of the first entry of this symbol with this graph
pub record IsFirst (symbol graph : ℕ) (es : List Entry) (k : ℕ) : Type 0 where
  pub within : k < length es
  pub found : of symbol graph (entry es k) ≡ true
  pub earlier : (i : ℕ) → i < k → of symbol graph (entry es i) ≡ false

-- this is the first, or there is none
pub record First (symbol graph : ℕ) (es : List Entry) (r : Option ℕ) : Type 0 where
  pub some : (k : ℕ) → r ≡ Some k → IsFirst symbol graph es k
  pub none : r ≡ None → (i : ℕ) → i < length es → of symbol graph (entry es i) ≡ false

module _ (symbol graph : ℕ) (es : List Entry) where
  pub first_is : First symbol graph es (first_of symbol graph es)
  first_is =
      record {
        some =
            λ k h. let w = position-Some (of symbol graph) es k no_entry h in
            record { within = w.0; found = w.1; earlier = w.2 };
        none =
            λ h i l. let past : length es < position_or_len (of symbol graph) es + 1 = grind (arith, common_steps) in
            fails_before_first (of symbol graph) es i no_entry (omega (arith, l, past));
      }
