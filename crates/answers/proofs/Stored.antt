-- What the test stores is read off the slices again, so what is printed of them is printed of its outcome. Assumes nothing.
use mathlib.Core.Path.{◌≡◌, refl, ap, ◌∙◌}
use mathlib.Core.List.{List, map}
use Prim.Native.Nat.{ℕ, ◌≤◌}
use native.Mathlib.Omega.{arith}
use borrow.Author.Tests.{le-leb}
use lib.Dec.{leb}
use lib.ListN.{length, drop, length-append, length-map, length-drop}
use Rattle.numbers.specs.Lists.{both, written}
use Rattle.rules.specs.declared.Entry.{Entry}
use Rattle.rules.specs.declared.Report.{Report}
use Rattle.rules.specs.Passes.{Outcome}
use Rattle.rules.specs.Test.{test}
use Rattle.rules.proofs.Stored.{Counted, counted_test}
use Rattle.texts.specs.Lines.{printed}
use Rattle.passes.specs.Slices.{Slices, room_of, all_kids, Tells, Tested, entries_to, read_out}
use Rattle.passes.proofs.Told.{length_kids, entries_told}
use Rattle.print.specs.Texts.{kids_in, bytes_for, enough, Printed}
use Rattle.answers.specs.Answered.{TestPrinted}

module _ (o : Outcome) (σ : Slices) (r : Report) (τ : Slices) (good : Counted (room_of σ) o) (t : Tells o σ r τ) where
  count : r.entries ≡ length o.entries
  count = ap (λ (x : Report). x.entries) t.report ∙ good.count

  read_is : read_out r τ ≡ o
  read_is =
      let same : entries_to τ r.entries ≡ o.entries = rw count (entries_told o σ r τ good.sound.slots t) in
      λ j. record { report = t.report j; entries = same j }

  -- each slice is as long as before
  long : (new old xs : List ℕ) → xs ≡ written new old → length new ≤ length old → length xs ≡ length old
  long new old xs e l = omega (arith, ap length e, length-append new (drop (length new) old), length-drop (length new) old)

  field : (f : Entry → ℕ) (old xs : List ℕ) → xs ≡ written (map f o.entries) old → length o.entries ≤ length old → length xs ≡ length old
  field f old xs e l = long (map f o.entries) old xs e (omega (arith, length-map o.entries f))

  same_room : room_of τ ≡ room_of σ
  same_room =
      let fits = good.sound.fits in
      rw (
        field (λ e. e.symbol) σ.symbols τ.symbols t.symbols (omega arith),
        field (λ e. e.graph) σ.graphs τ.graphs t.graphs (omega arith),
        field (λ e. e.production) σ.productions τ.productions t.productions (omega arith),
        long (all_kids o.entries) σ.kids τ.kids t.kids (omega (arith, length_kids o.entries good.sound.slots)),
      )

  enough_is : (old : List ℕ) → enough r τ old ≡ leb (bytes_for (length o.entries)) (length old)
  unfolding both
  enough_is old = rw (same_room, count, le-leb (length o.entries) (room_of σ) good.sound.fits)

-- what is printed of a test, read off the slices that it has left
pub test_printed : (bs : List ℕ) (limit : ℕ) (σ : Slices) (report : Report) (τ υ : Slices) {old new : List ℕ} {r : ℕ} → υ ≡ τ
    → Tested bs limit σ report τ → Printed (printed (kids_in bs) (read_out report υ)) (enough report υ old) old new r
    → TestPrinted bs limit σ τ old new r
test_printed bs limit σ report τ υ {old} e t p =
    let o = test bs limit (room_of σ) in
    let good = counted_test bs limit (room_of σ) in
    record {
      stored = record { report = refl; symbols = t.symbols; graphs = t.graphs; productions = t.productions; kids = t.kids };
      text = rw (e, read_is o σ report τ good t, enough_is o σ report τ good t old) at p;
    }

-- where the buffer has room for as many entries as the slices, the text is always there
pub always_printed : (bs : List ℕ) (limit : ℕ) (σ τ : Slices) (old new : List ℕ) (r : ℕ) → bytes_for (room_of σ) ≤ length old
    → TestPrinted bs limit σ τ old new r
    → (new ≡ written (printed (kids_in bs) (test bs limit (room_of σ))) old) × (r ≡ length (printed (kids_in bs) (test bs limit (room_of σ))))
always_printed bs limit σ τ old new r h p =
    let few = (counted_test bs limit (room_of σ)).sound.fits in
    let yes = le-leb (bytes_for (length (test bs limit (room_of σ)).entries)) (length old) (omega arith) in
    (rw yes at p.text.buffer, rw yes at p.text.count)
