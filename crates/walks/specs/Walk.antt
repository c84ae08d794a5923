-- The order of a walk, and what it says of the set that it leaves. Only promises of private functions speak of it. Assumes nothing.
use Rattle.std.specs.Prelude.{Bool, true, false, List, reverse, ◌≡◌, ℕ, ◌≤◌, ◌<◌, length}
use Rattle.grammar.specs.declared.Production.{Production}
use Rattle.grammar.specs.Table.{at_edges}
use Rattle.parts.specs.Sets.{Symbols}
use Rattle.parts.proofs.Sizes.{size}

-- from the first to the last, or from the last to the first
unfoldable pub turned : Bool → List Production → List Production
turned true ps = ps
turned false ps = reverse ps

-- the bytes have the productions of the table
abbrev pub Whole : List ℕ → Type 0
Whole bs = at_edges bs ≤ length bs

-- A became B, and the answer says whether something was added
pub record Added (A B : Symbols) (more : Bool) : Type 0 where
  pub nothing : more ≡ false → B ≡ A
  pub something : more ≡ true → size A < size B
