-- The row after a test agrees with the slices, record by record, exactly if these hold what the test over slices would leave in them.
-- Assumes nothing.
use mathlib.Core.Path.{◌≡◌, refl, sym, ap, ◌∙◌}
use mathlib.Core.List.{List, ◌++◌, map}
use mathlib.Core.Logic.{◌↔◌}
use Prim.Native.Nat.{ℕ, zero, suc, ◌*◌, ◌≤◌, ◌<◌, min}
use native.Mathlib.Omega.{arith}
use lib.ListN.{length, get_or, take, drop, get_or-replicate}
use lib.Seq.{ext_get_or, length-take-le}
use Rattle.numbers.specs.Lists.{written}
use Rattle.rules.specs.declared.Entry.{Entry}
use Rattle.rules.specs.declared.Report.{Report}
use Rattle.rules.specs.Passes.{Outcome, no_entry, entry}
use Rattle.rules.specs.Test.{test}
use Rattle.rules.proofs.Stored.{Counted, counted_test}
use Rattle.passes.specs.Slices.{Slices, room_of, all_kids, Tells, entry_at, entries_to}
use Rattle.passes.specs.Follow.{Beyond}
use Rattle.passes.proofs.Entries.{length_entries, entry_at_lem, field_taken, kids_taken, written_over}
use Rattle.passes.proofs.Testing.{tells_same}
use Rattle.passes.proofs.Told.{entries_fit, entries_told}
use Rattle.rows.proofs.Writing.{length_written, written_there, written_rest, written_front}
use Rattle.records.specs.Records.{row_room, RowTested}
use Rattle.agreement.specs.Agreement.{blank_entry, Alike, row_of}
use Rattle.agreement.proofs.Rowing.{length_row}
use Rattle.agreement.proofs.Finding.{different_test, NewAt, found_here, not_before}

module _ (bs : List ℕ) (limit room : ℕ) (few : room ≤ 4096) (σ : Slices) where
  abbrev o : Outcome
  o = test bs limit room

  abbrev es : List Entry
  es = o.entries

  abbrev n : ℕ
  n = length es

  -- the row afterwards
  abbrev ys : List Entry
  ys = written es (row_of blank_entry)

  counted : Counted room o
  counted = counted_test bs limit room

  row_long : length ys ≡ 4096
  row_long = length_written es (row_of blank_entry) (omega (arith, counted.sound.fits, length_row blank_entry, few)) ∙ length_row blank_entry

  front : (i : ℕ) → i < n → entry ys i ≡ entry es i
  front i l = written_there es (row_of blank_entry) no_entry i l

  rest : (i : ℕ) → n ≤ i → i < 4096 → entry ys i ≡ blank_entry
  unfolding row_of
  rest i l h = written_rest es (row_of blank_entry) no_entry i l ∙ get_or-replicate 4096 i blank_entry no_entry h

  new : (i : ℕ) → i < n → NewAt (entry ys i) ys i
  new i l j m s g =
      let same : j ≡ i = different_test bs limit room j i (omega arith) l
      (ap (λ (x : Entry). x.symbol) (sym (front j (omega arith))) ∙ s ∙ ap (λ (x : Entry). x.symbol) (front i l))
      (ap (λ (x : Entry). x.graph) (sym (front j (omega arith))) ∙ g ∙ ap (λ (x : Entry). x.graph) (front i l)) in
      omega (arith, same)

  -- ---- the slices hold the entries

  module _ (r : Report) (told : Tells o σ r σ) where
    within : n ≤ room_of σ
    within =
        let long = entries_fit o σ r σ counted.sound.slots told in
        omega (arith, few, counted.sound.fits, long.0, long.1, long.2, long.3)

    pub told_alike : Alike σ o.report.entries ys
    told_alike i l = record {
      stored = λ m.
          let here : i < n = omega (arith, m, counted.count) in (
            omega (arith, here, within),
            found_here ys i l (new i here),
            not_before ys i l (new i here),
            front i here ∙ ap (λ (xs : List Entry). entry xs i) (sym (entries_told o σ r σ counted.sound.slots told)) ∙ entry_at_lem σ n i here,
          );
      rest = λ m. rest i (omega (arith, m, counted.count)) (omega (arith, l, row_long));
    }

  -- ---- every record is as told

  module _ (alike : Alike σ o.report.entries ys) where
    here : (i : ℕ) → i < n → (i < room_of σ) × (entry es i ≡ entry_at σ i)
    here i l =
        let there = (alike i (omega (arith, l, row_long, counted.sound.fits, few))).stored (omega (arith, l, counted.count)) in
        (there.0, sym (front i l) ∙ there.3)

    fits : n ≤ room_of σ
    fits = go n refl
      where
        go : (k : ℕ) → n ≡ k → n ≤ room_of σ
        go zero e = omega (arith, e)
        go (suc k) e = omega (arith, e, (here k (omega (arith, e))).0)

    read : entries_to σ n ≡ es
    read =
        ext_get_or no_entry (entries_to σ n) es (length_entries σ n) (λ i l.
        let m : i < n = omega (arith, l, length_entries σ n) in
        entry_at_lem σ n i m ∙ sym (here i m).1)

    same : {k : ℕ} {xs : List ℕ} → Beyond k xs xs
    same = record { long = refl; rest = refl }

    field : (f : Entry → ℕ) (xs : List ℕ) → ((i : ℕ) → f (entry_at σ i) ≡ get_or xs i 0) → n ≤ length xs → xs ≡ written (map f es) xs
    field f xs at l = written_over n (map f es) xs xs (ap (map f) (sym read) ∙ field_taken σ f xs at n l) l same

    pub alike_told : (r : Report) → r ≡ o.report → Tells o σ r σ
    unfolding entry_at
    alike_told r e = record {
      report = e;
      symbols = field (λ x. x.symbol) σ.symbols (λ i. refl) (omega (arith, fits));
      graphs = field (λ x. x.graph) σ.graphs (λ i. refl) (omega (arith, fits));
      productions = field (λ x. x.production) σ.productions (λ i. refl) (omega (arith, fits));
      kids =
          let l : 7 * n ≤ length σ.kids = omega (arith, fits) in
          written_over (7 * n) (all_kids es) σ.kids σ.kids (ap all_kids (sym read) ∙ kids_taken σ n l) l same;
    }

-- ---- the test over the front of a row in which b stood everywhere, with the rest of the row behind it, against a report and slices

module _ (bs : List ℕ) (limit room most : ℕ) (σ : Slices) (b : Entry) (r : Report) (zs : List Entry)
    (clipped : most ≡ min 4096 room) (blank : b ≡ blank_entry) (tested : RowTested bs limit (take most (row_of b)) r zs) where
  few : most ≤ 4096
  few = omega (arith, clipped)

  abbrev xs : List Entry
  xs = row_of b

  inside : most ≤ length xs
  inside = omega (arith, few, length_row b)

  room_is : row_room (take most xs) ≡ most
  room_is = omega (arith, few, length-take-le most xs inside)

  report_is : r ≡ (test bs limit most).report
  report_is = tested.report ∙ ap (λ (j : ℕ). (test bs limit j).report) room_is

  after_is : zs ++ drop most xs ≡ written (test bs limit most).entries (row_of blank_entry)
  after_is =
      ap (λ (es : List Entry). es ++ drop most xs)
      (tested.entries ∙ ap (λ (j : ℕ). written (test bs limit j).entries (take most xs)) room_is)
      ∙ written_front (test bs limit most).entries xs most (counted_test bs limit most).sound.fits inside
      ∙ ap (λ (x : Entry). written (test bs limit most).entries (row_of x)) blank

  pub agrees : (report : Report) → ((r ≡ report) × Alike σ r.entries (zs ++ drop most (row_of b))) ↔ Tells (test bs limit (min 4096 room)) σ report σ
  agrees report =
      let count : r.entries ≡ (test bs limit most).report.entries = ap (λ (y : Report). y.entries) report_is in (
        λ w. tells_same (ap (test bs limit) clipped)
            (alike_told bs limit most few σ (rw (count, after_is) at w.1) report (sym w.0 ∙ report_is)),
        λ told. let clip : Tells (test bs limit most) σ report σ = tells_same (ap (test bs limit) (sym clipped)) told in
            (report_is ∙ sym clip.report, rw (count, after_is) (told_alike bs limit most few σ report clip)),
      )
