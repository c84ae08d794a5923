-- `records::run` meets its contract: what the test leaves in the slices is stored in the row. Assumes nothing.
use mathlib.Core.List.{List}
use mathlib.Core.Path.{◌≡◌, ap, ◌∙◌}
use Prim.Native.Nat.{ℕ, ◌≤◌}
use native.Mathlib.Omega.{arith}
use lib.ListN.{length}
use Rattle.numbers.specs.Lists.{written}
use Rattle.rules.specs.declared.Entry.{Entry}
use Rattle.rules.specs.declared.Report.{Report}
use Rattle.rules.specs.Passes.{Outcome}
use Rattle.rules.specs.Test as rules
use Rattle.rules.proofs.Stored.{Counted, counted_test}
use Rattle.steps.specs.Lent.{held}
use Rattle.passes.specs.Slices.{Slices, room_of, Tells, Tested, entries_to}
use Rattle.passes.proofs.Testing.{tells_same}
use Rattle.passes.proofs.Told.{entries_fit, entries_told}
use Rattle.records.specs.Records.{row_room, RowTested}
use Rattle.records.proofs.run.Goals as goal

module _ (bs : List ℕ) (limit : ℕ) (ys : List Entry) (σ τ υ : Slices) (r : Report) (room : room_of σ ≡ row_room ys)
    (tested : Tested bs limit σ r τ) (same : υ ≡ τ) where
  abbrev out : Outcome
  out = rules.test bs limit (row_room ys)

  counted : Counted (row_room ys) out
  counted = counted_test bs limit (row_room ys)

  told : Tells out σ r υ
  told = rw same (tells_same (ap (rules.test bs limit) room) tested)

  stored : r.entries ≡ length out.entries
  stored = ap (λ (y : Report). y.entries) told.report ∙ counted.count

  -- as many entries as the report says fit into the row and the slices
  fit : (n : ℕ) → n ≡ r.entries → (n ≤ length ys) × (n ≤ room_of υ)
  fit n e =
      let long = entries_fit out σ r υ counted.sound.slots told in
      let small : r.entries ≤ 4096 = omega (arith, stored, counted.sound.fits) in (
        omega (arith, stored, counted.sound.fits),
        omega (arith, stored, small, long.0, long.1, long.2, long.3),
      )

  -- and are what is stored
  rows : (n : ℕ) (after : List Entry) → n ≡ r.entries → after ≡ written (entries_to υ n) ys → RowTested bs limit ys r after
  rows n after e made =
      record {
        report = told.report;
        entries =
            made
            ∙ ap (λ (m : ℕ). written (entries_to υ m) ys) (e ∙ stored)
            ∙ ap (λ (es : List Entry). written es ys) (entries_told out σ r υ counted.sound.slots told);
      }

pub store-requires : goal.store-requires
store-requires c =
    let a = c.args in
    fit a.table.now a.limit a.row.now (held a.part.now) _ _ c.test-report.result c.requires c.test-report.ensures.tested c.entries.ensures
    c.from.result c.from.ensures

pub returns : goal.returns
returns c =
    let a = c.args in
    rows a.table.now a.limit a.row.now (held a.part.now) _ _ c.test-report.result c.requires c.test-report.ensures.tested c.entries.ensures
    c.from.result c.store.new.row c.from.ensures c.store.ensures
