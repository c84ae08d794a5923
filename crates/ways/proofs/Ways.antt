-- Every way in carries the demands and tells the outcome. Assumes nothing.
use mathlib.Core.Path.{◌≡◌, refl, sym, ap, ◌∙◌, subst}
use mathlib.Core.Bool.{false}
use mathlib.Core.List.{List, [], ◌∷◌, map}
use mathlib.Core.Logic.{◌⊎◌, inl, inr}
use Prim.Native.Nat.{ℕ, zero, suc, ◌+◌, ◌≤◌}
use native.Mathlib.Omega.{arith}
use lib.Dec.{eqb}
use lib.ListN.{length, get_or, take, drop, length-take, drop_of_length-le}
use lib.Seq.{drop-cons, take_at, drop_at, get_or-take}
use borrow.Author.Tests.{ne_eqb}
use contract.Monad.{fact_mono}
use Rattle.std.specs.Prelude.{Ok}
use Rattle.numbers.specs.Lists.{up_from, written}
use Rattle.grammar.specs.Grammar.{production}
use Rattle.grammar.specs.Table.{width_of, grammar_of}
use Rattle.grammar.specs.Rules.{EdgeBreaks, Breaks}
use Rattle.grammar.specs.declared.Broken.{Broken}
use Rattle.grammar.specs.declared.Broken.TheVariants.{Record}
use Rattle.grammar.specs.Refusal.{refusal}
use Rattle.graph.specs.Parts.{most_nodes}
use Rattle.trees.proofs.Values.{length_rights}
use Rattle.parts.specs.Exactly.{Found}
use Rattle.rules.specs.declared.Answer.{Answer}
use Rattle.rules.specs.declared.Answer.TheVariants.{Noncircular, Circular, Refused, OutOfSteps, OutOfRoom}
use Rattle.rules.specs.declared.Report.{Report}
use Rattle.rules.specs.declared.Entry.{Entry}
use Rattle.rules.specs.Passes.{Outcome, numbered, number_of, no_value, value_of, entry, no_entry}
use Rattle.rules.specs.Test.{system_of, system_in}
use Rattle.grammar.proofs.Lookups.{slots_seven}
use Rattle.rules.proofs.Stored.{length_seven, counted_test}
use Rattle.passes.specs.Slices as slices
use Rattle.passes.proofs.Following.{drop_later}
use Rattle.rows.proofs.Writing.{length_written}
use Rattle.records.specs.Records.{row_room, RowTested}
use Rattle.flats.specs.Flat.{flat}
use Rattle.orders.specs.Answers as runs
use Rattle.orders.specs.Stored.{Slots}
use Rattle.texts.specs.Lines.{kids_in}
use Rattle.texts.specs.Telling.{OthersZero, RootZero, UnprintedZero}
use Rattle.texts.proofs.Telling.{said_zero, printed_tells}
use Rattle.verdict.specs.Demands.{back, answer}
use Rattle.ways.specs.Ways.{slices_given, slices_left, ProgramAlways, read_row, RowProgram, RowPlainAlways, RowAlways, answer_from, unflat, NumbersTell, export_given, export_left, numbers_left, ExportAlways, TextTells, TouchedFalls, TouchedRowFalls}
use Rattle.verdict.proofs.Obeys.{obeys}
use Rattle.verdict.proofs.Demands.{refused, either, sound}
use Rattle.verdict.proofs.Circle.{circle_is, places_said}
use Rattle.ways.proofs.Program.{behind, demanded, carried}

-- ---- over lent slices

pub program : ProgramAlways
program κs a r s promised = (carried a.0.now a.1.0 (slices_given κs a) r (slices_left κs s) promised.0, promised.1)

-- ---- over a lent row of records

module _ (bs : List ℕ) (limit : ℕ) (before : List Entry) (r : Report) (after : List Entry) (promised : RowTested bs limit before r after) where
  abbrev R : ℕ
  R = row_room before

  row_count : length (back bs limit (row_room before)).entries ≡ r.entries
  row_count = sym (ap (λ (x : Report). x.entries) promised.report ∙ (counted_test bs limit R).count)

  row_front : take r.entries after ≡ (back bs limit (row_room before)).entries
  row_front =
      let es = (back bs limit R).entries in
      ap (take r.entries) promised.entries ∙ take_at es (drop (length es) before) r.entries row_count

  row_untouched : (o : Outcome) → back bs limit (row_room before) ≡ o → o.entries ≡ [] → after ≡ before
  row_untouched o h none = promised.entries ∙ ap (λ (es : List Entry). written es before) (ap (λ (x : Outcome). x.entries) h ∙ none)

  row_few : r.entries ≤ row_room before
  row_few = omega (arith, (counted_test bs limit R).sound.fits, row_count)

  row_rest : drop r.entries after ≡ drop r.entries before
  row_rest = behind (back bs limit R).entries before after r.entries promised.entries row_count

  carried_row : RowProgram bs limit before r after
  carried_row =
      let w : read_row r after ≡ back bs limit R = λ j. record { report = promised.report j; entries = row_front j } in
      record {
        report = promised.report;
        long = ap length promised.entries ∙ length_written (back bs limit R).entries before (omega (arith, row_few, row_count));
        entries = λ k l. sym (get_or-take r.entries after k no_entry l) ∙ ap (λ (es : List Entry). entry es k) row_front;
        rest = row_rest;
        beyond = drop_later r.entries 4096 after before (omega (arith, row_few)) row_rest;
        untouched = λ k b. rw (row_untouched _ (refused bs k b limit R) refl);
        whole = w;
        demanded = demanded bs limit R (read_row r after) w;
      }

pub program_of_records_plain : RowPlainAlways
program_of_records_plain κs a r s = carried_row a.0.now a.1.0 a.1.1.0.now r s.1.1.0.now

pub program_of_records : RowAlways
program_of_records M 𝓤 𝓛 mem run κs a r s =
    fact_mono 𝓤 _ _ (carried_row a.0.now a.1.0 a.1.1.0.now r s.1.1.0.now)

-- ---- what an answer leaves at 0

module _ (bs : List ℕ) (good : refusal bs ≡ Ok tt) where
  -- the slots that count are those of the right symbols
  others : (n p : ℕ) (slots : List ℕ) (o : Outcome) → Slots (system_in bs) (Found (grammar_of bs)) o.entries n p slots
      → OthersZero (kids_in bs p) slots
  unfolding system_of
  others n p slots o s =
      subst (λ (k : ℕ). OthersZero k slots) (length_rights (grammar_of bs) (obeys bs good).0 p) s.rest

  root_zero : (limit room : ℕ) (o : Outcome) (a : Answer)
      → runs.Says (system_in bs) (Found (grammar_of bs)) limit room o a → RootZero (kids_in bs) o a
  root_zero limit room o Noncircular s = s.1
  root_zero limit room o (Circular p) s = others (length o.entries) p o.report.root o s.kids
  root_zero limit room o (Refused k) s = absurd s
  root_zero limit room o OutOfSteps s = s.1
  root_zero limit room o OutOfRoom s = s.2

unprinted_zero : (bs : List ℕ) (limit room : ℕ) → UnprintedZero (kids_in bs) (back bs limit room)
unprinted_zero bs limit room = go (either bs)
  where
    go : (refusal bs ≡ Ok tt) ⊎ ((k : Broken) × Breaks bs k) → UnprintedZero (kids_in bs) (back bs limit room)
    go (inl good) =
        let s = sound bs good limit room in
        record {
          kids = λ k l. others bs good k _ _ (back bs limit room) (s.made k l).kids;
          root = root_zero bs good limit room (back bs limit room) (answer bs limit room) s.says;
          circle =
              rw (circle_is bs limit room)
              (said_zero (width_of bs) (grammar_of bs) (back bs limit room).entries (back bs limit room).report.root (answer bs limit room));
        }
    go (inr (k, b)) =
        subst (UnprintedZero (kids_in bs)) (sym (refused bs k b limit room))
        (record { kids = λ j l. absurd (omega arith); root = refl; circle = refl })

-- ---- the numbers where Rust and C call it

-- the number of a broken rule is no other answer's, and that of a record is no missing one's
broken_told : (bs : List ℕ) (b : Broken) → Breaks bs b → answer_from (number_of (Refused b)) (value_of (Refused b)) ≡ Refused b
unfolding numbered
broken_told bs b (Breaks.header_short a) = refl
broken_told bs b (Breaks.counts h a) = refl
broken_told bs b (Breaks.offsets h c a) = refl
broken_told bs b (Breaks.symbol_bad h i f) = rw (ne_eqb i no_value (λ e. omega (arith, f.there, h.1.symbols)))
broken_told bs b (Breaks.production_bad h s i f) = rw (ne_eqb i no_value (λ e. omega (arith, f.there, h.1.productions)))
broken_told bs b (Breaks.edge_bad h i k l all bad) = go k bad (ne_eqb i no_value (λ e. omega (arith, h.0.1.edges)))
  where
    go : (k : ℕ) → EdgeBreaks (grammar_of bs) i k → eqb i no_value ≡ false → answer_from k i ≡ Refused (Record k i)
    go k (EdgeBreaks.no_such_production n) e = rw e
    go k (EdgeBreaks.no_occurrence p n) e = rw e
    go k (EdgeBreaks.no_attribute p o n) e = rw e
    go k (EdgeBreaks.not_allowed p o a n) e = rw e
    go k (EdgeBreaks.not_above h n) e = rw e

-- a list, place by place
places_told : (l : List ℕ) (i n : ℕ) → length l ≡ i + n → map (λ k. get_or l k 0) (up_from i n) ≡ drop i l
unfolding up_from
places_told l i zero h = sym (drop_of_length-le l {i = i} (omega arith))
places_told l i (suc n) h =
    ap (λ (t : List ℕ). get_or l i 0 ∷ t) (places_told l (suc i) n (omega arith)) ∙ sym (drop-cons l i 0 (omega arith))

report_told : (r : Report) → answer_from (number_of r.answer) (value_of r.answer) ≡ r.answer → length r.root ≡ 7
    → length r.circle.nodes ≡ most_nodes → unflat (flat r) ≡ r
unfolding up_from
report_told r h l n =
    let root = places_told r.root 0 7 l in
    let nodes = take_at r.circle.nodes r.circle.marks most_nodes n in
    let marks = drop_at r.circle.nodes r.circle.marks most_nodes n in
    λ j. record {
      answer = h j;
      closures = r.closures;
      entries = r.entries;
      passes = r.passes;
      root = root j;
      circle = record { nodes = nodes j; marks = marks j; len = r.circle.len };
    }

module _ (bs : List ℕ) (good : refusal bs ≡ Ok tt) where
  kids_few : (p : ℕ) → kids_in bs p ≤ 7
  kids_few p =
      let slots = slots_seven bs p in
      let count = length_rights (grammar_of bs) (obeys bs good).0 p in
      omega (arith, length-take (kids_in bs p) (production (grammar_of bs) p).slots)

  seven_long : (n : ℕ) (slots : List ℕ) → n ≤ 7 → OthersZero n slots → length slots ≡ 7
  seven_long n slots few z = ap length z ∙ length_seven (take n slots) (omega (arith, length-take n slots))

  said_told : (limit room : ℕ) (o : Outcome) (a : Answer)
      → runs.Says (system_in bs) (Found (grammar_of bs)) limit room o a
      → (answer_from (number_of a) (value_of a) ≡ a) × (length o.report.root ≡ 7)
  unfolding numbered
  said_told limit room o Noncircular s = (refl, ap length s.1)
  said_told limit room o (Circular p) s =
      (refl, seven_long (kids_in bs p) o.report.root (kids_few p) (others bs good (length o.entries) p o.report.root o s.kids))
  said_told limit room o (Refused k) s = absurd s
  said_told limit room o OutOfSteps s = (refl, ap length s.1)
  said_told limit room o OutOfRoom s = (refl, ap length s.2)

pub numbers_tell : NumbersTell
numbers_tell bs limit room = go (either bs)
  where
    go : (refusal bs ≡ Ok tt) ⊎ ((k : Broken) × Breaks bs k) → unflat (flat (back bs limit room).report) ≡ (back bs limit room).report
    go (inl good) =
        let t = said_told bs good limit room (back bs limit room) (answer bs limit room) (sound bs good limit room).says in
        report_told (back bs limit room).report t.0 t.1 (places_said bs limit room)
    go (inr (k, b)) =
        subst (λ (o : Outcome). unflat (flat o.report) ≡ o.report) (sym (refused bs k b limit room))
        (report_told _ (broken_told bs k b) refl refl)

pub program_of_export : ExportAlways
program_of_export κs a r s promised =
    let read : unflat (numbers_left κs s) ≡ promised.report =
    ap unflat promised.numbers_are
    ∙ ap (λ (x : Report). unflat (flat x)) promised.tested.report
    ∙ numbers_tell a.0.now a.1.0 (slices.room_of (export_given κs a))
    ∙ sym promised.tested.report in
    rw read (carried a.0.now a.1.0 (export_given κs a) promised.report (export_left κs s) promised.tested)

-- ---- the printed text

pub text_tells : TextTells
text_tells bs bs' limit limit' room room' h =
    printed_tells (kids_in bs) (kids_in bs') (back bs limit room) (back bs' limit' room') (unprinted_zero bs limit room)
    (unprinted_zero bs' limit' room') h

-- ---- what is lent is untouched

pub touched_falls : TouchedFalls
touched_falls bs limit k σ r τ b touched p = touched (p.untouched k b)

pub touched_row_falls : TouchedRowFalls
touched_row_falls bs limit k before r after b touched p = touched (p.untouched k b)
