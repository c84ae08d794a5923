-- The test of a table, and the text of what comes back. Assumes nothing.
use Rattle.std.specs.Prelude.{List, ℕ, leb, length}
use Rattle.rules.specs.Test.{test}
use Rattle.texts.specs.Lines.{kids_in, printed}
use Rattle.passes.specs.Slices.{Slices, room_of, Tells}
use Rattle.print.specs.Texts.{bytes_for, Printed}

-- the test of a table: what it stores is left in the slices, and what it comes to is printed
pub record TestPrinted (bs : List ℕ) (limit : ℕ) (σ τ : Slices) (old new : List ℕ) (r : ℕ) : Type 0 where
  pub stored : Tells (test bs limit (room_of σ)) σ (test bs limit (room_of σ)).report τ
  pub text :
      Printed (printed (kids_in bs) (test bs limit (room_of σ)))
      (leb (bytes_for (length (test bs limit (room_of σ)).entries)) (length old)) old new r
