-- `records::store` meets its contract. Assumes nothing.
use mathlib.Core.List.{List}
use mathlib.Core.Path.{◌≡◌, refl, sym, ap, ◌∙◌}
use Prim.Native.Nat.{ℕ, ◌+◌, ◌≤◌, ◌<◌}
use native.Mathlib.Numerals.{add-one}
use native.Mathlib.Omega.{arith}
use lib.ListN.{length, set}
use Rattle.numbers.specs.Lists.{written}
use Rattle.rules.specs.declared.Entry.{Entry}
use Rattle.rows.proofs.Writing.{written_snoc}
use Rattle.steps.specs.Lent.{read}
use Rattle.steps.specs.Slices.{entry_in}
use Rattle.passes.specs.Slices.{Slices, room_of, entry_at, entries_to}
use Rattle.passes.proofs.Entries.{length_entries}
use Rattle.records.proofs.EntryIn.{entry_in_lem}
use Rattle.records.proofs.store.Goals as goal

-- one more entry
more : (σ : Slices) (ys : List Entry) (n i : ℕ) → n ≤ length ys → n ≤ room_of σ → i < n
    → set (written (entries_to σ i) ys) i (entry_in σ i) ≡ written (entries_to σ (i + 1)) ys
unfolding entries_to
more σ ys n i fits held l =
    ap (set (written (entries_to σ i) ys) i) (entry_in_lem σ i (omega (arith, l, held)))
    ∙ ap (λ (j : ℕ). set (written (entries_to σ i) ys) j (entry_at σ i)) (sym (length_entries σ i))
    ∙ written_snoc (entries_to σ i) ys (entry_at σ i) (omega (arith, length_entries σ i, fits))
    ∙ ap (λ (j : ℕ). written (entries_to σ j) ys) (sym (add-one i))

pub loop-i-init : goal.loop-i-init
unfolding entries_to
loop-i-init c = refl

pub loop-i-preserved : goal.loop-i-preserved
loop-i-preserved c =
    rw (c.put_entry.ensures, c.loop-i.invariant, c.entry.ensures)
    (more (read c.args.entries) c.args.row.now c.args.n c.loop-i.i c.requires.0 c.requires.1 c.loop-i-test.true)
