-- The promise of the test carries the demands: nothing is left between the program's result and them. Assumes nothing.
use mathlib.Core.Path.{◌≡◌, refl, sym, ap, ◌∙◌, subst}
use mathlib.Core.List.{List, [], map}
use Prim.Native.Nat.{ℕ, ◌*◌, ◌≤◌, ◌<◌}
use native.Mathlib.Omega.{arith}
use lib.ListN.{length, drop, length-map}
use lib.Seq.{drop_at}
use Rattle.numbers.specs.Lists.{written}
use Rattle.grammar.specs.declared.Broken.{Broken}
use Rattle.rules.specs.declared.Answer.TheVariants.{Refused}
use Rattle.rules.specs.declared.Report.{Report}
use Rattle.rules.specs.declared.Entry.{Entry}
use Rattle.rules.specs.Passes.{Outcome, entry}
use Rattle.passes.specs.Slices.{Slices, slices, room_of, all_kids, Tested, entry_at, entries_to, read_out}
use Rattle.rules.proofs.Stored.{Counted, counted_test}
use Rattle.passes.proofs.Entries.{entry_at_lem}
use Rattle.passes.proofs.Following.{drop_later}
use Rattle.passes.proofs.Told.{length_kids, entries_told}
use Rattle.rows.proofs.Writing.{length_written}
use Rattle.verdict.specs.Demands.{back, RoomExactly}
use Rattle.ways.specs.Program.{Stands, RestBefore, LongAsBefore, Demanded, Program}
use Rattle.verdict.proofs.Demands.{refused_exactly, entries_shown, circular_shown, noncircular_none, start_without_tree, limits_kept, steps_exactly, room_exactly, room_counts, never_still, stands_still, stands_still_above}
use Rattle.verdict.proofs.Circle.{circle_said_lem, never_both, circle_waits}

-- ---- read off the slices

-- behind what is written all is as before
pub behind : {A : Type 0} (new old now : List A) (n : ℕ) → now ≡ written new old → length new ≡ n → drop n now ≡ drop n old
behind new old now n e l = ap (drop n) e ∙ drop_at new (drop (length new) old) n l ∙ ap (λ (k : ℕ). drop k old) l

module _ (bs : List ℕ) (limit : ℕ) (σ : Slices) (r : Report) (τ : Slices) (promised : Tested bs limit σ r τ) where
  abbrev R : ℕ
  R = room_of σ

  abbrev es : List Entry
  es = (back bs limit R).entries

  sound : Counted (room_of σ) (back bs limit (room_of σ))
  sound = counted_test bs limit R

  count : length (back bs limit (room_of σ)).entries ≡ r.entries
  count = sym (ap (λ (x : Report). x.entries) promised.report ∙ sound.count)

  told : entries_to τ (length (back bs limit (room_of σ)).entries) ≡ (back bs limit (room_of σ)).entries
  told = entries_told (back bs limit R) σ r τ sound.sound.slots promised

  at_slices : (k : ℕ) → k < length (back bs limit (room_of σ)).entries → entry_at τ k ≡ entry (back bs limit (room_of σ)).entries k
  at_slices k l = sym (entry_at_lem τ (length es) k l) ∙ ap (λ (xs : List Entry). entry xs k) told

  stands : (k : ℕ) → k < r.entries → Stands bs limit σ τ k
  unfolding entry_at
  stands k l =
      let e = at_slices k (omega (arith, count)) in
      record {
        symbol = ap (λ (x : Entry). x.symbol) e;
        graph = ap (λ (x : Entry). x.graph) e;
        production = ap (λ (x : Entry). x.production) e;
        kids = ap (λ (x : Entry). x.kids) e;
      }

  rest : RestBefore r.entries σ τ
  rest = record {
    symbols =
        behind (map (λ e. e.symbol) es) σ.symbols τ.symbols r.entries promised.symbols
        (length-map es (λ e. e.symbol) ∙ count);
    graphs =
        behind (map (λ e. e.graph) es) σ.graphs τ.graphs r.entries promised.graphs
        (length-map es (λ e. e.graph) ∙ count);
    productions =
        behind (map (λ e. e.production) es) σ.productions τ.productions r.entries promised.productions
        (length-map es (λ e. e.production) ∙ count);
    kids =
        behind (all_kids es) σ.kids τ.kids (7 * r.entries) promised.kids
        (length_kids es sound.sound.slots ∙ ap (λ (n : ℕ). 7 * n) count);
  }

  -- and the same from any later place on
  rest_later : (n : ℕ) → r.entries ≤ n → RestBefore n σ τ
  rest_later n l = record {
    symbols = drop_later r.entries n τ.symbols σ.symbols l rest.symbols;
    graphs = drop_later r.entries n τ.graphs σ.graphs l rest.graphs;
    productions = drop_later r.entries n τ.productions σ.productions l rest.productions;
    kids = drop_later (7 * r.entries) (7 * n) τ.kids σ.kids (omega arith) rest.kids;
  }

  few : r.entries ≤ room_of σ
  few = omega (arith, sound.sound.fits, count)

  long : LongAsBefore σ τ
  long = record {
    symbols =
        ap length promised.symbols
        ∙ length_written (map (λ e. e.symbol) es) σ.symbols (omega (arith, few, count, length-map es (λ e. e.symbol)));
    graphs =
        ap length promised.graphs
        ∙ length_written (map (λ e. e.graph) es) σ.graphs (omega (arith, few, count, length-map es (λ e. e.graph)));
    productions =
        ap length promised.productions
        ∙ length_written (map (λ e. e.production) es) σ.productions
        (omega (arith, few, count, length-map es (λ e. e.production)));
    kids =
        ap length promised.kids
        ∙ length_written (all_kids es) σ.kids (omega (arith, few, count, length_kids es sound.sound.slots));
  }

  whole : read_out r τ ≡ back bs limit (room_of σ)
  whole =
      let same : entries_to τ r.entries ≡ (back bs limit (room_of σ)).entries = ap (entries_to τ) (sym count) ∙ told in
      λ j. record { report = promised.report j; entries = same j }

  untouched : (outcome : Outcome) → back bs limit (room_of σ) ≡ outcome → outcome.entries ≡ [] → τ ≡ σ
  unfolding all_kids
  untouched o h none =
      let e : (back bs limit R).entries ≡ [] = ap (λ (x : Outcome). x.entries) h ∙ none in
      let a = promised.symbols ∙ ap (λ (l : List Entry). written (map (λ (e : Entry). e.symbol) l) σ.symbols) e in
      let b = promised.graphs ∙ ap (λ (l : List Entry). written (map (λ (e : Entry). e.graph) l) σ.graphs) e in
      let c = promised.productions ∙ ap (λ (l : List Entry). written (map (λ (e : Entry). e.production) l) σ.productions) e in
      let d = promised.kids ∙ ap (λ (l : List Entry). written (all_kids l) σ.kids) e in
      λ i. slices (a i) (b i) (c i) (d i)

-- ---- all that is asked

pub demanded : (bs : List ℕ) (limit R : ℕ) (o : Outcome) → o ≡ back bs limit R → Demanded bs limit R o
demanded bs limit R o e = subst (Demanded bs limit R) (sym e) (record {
  refused = refused_exactly bs limit R;
  entries = entries_shown bs limit R;
  circular = circular_shown bs limit R;
  noncircular = noncircular_none bs limit R;
  start_without_tree = start_without_tree bs limit R;
  limits = limits_kept bs limit R;
  steps = λ M l. steps_exactly bs limit M R l;
  room = λ l S. room_exactly bs limit l R S;
  room_counts = room_counts bs limit R;
  circle = circle_said_lem bs limit R;
  never_both = never_both bs limit R;
  never_still = never_still bs limit R;
  stands_still = stands_still bs limit R;
  stands_still_above = stands_still_above bs limit R;
  circle_waits = circle_waits bs limit R;
})

-- so after any answer more room can be asked about: with the closures that were made, or with the limit
pub room_after :
    (bs : List ℕ) (limit R : ℕ) (o : Outcome) → Demanded bs limit R o → (S : ℕ) → R < S
    → RoomExactly bs limit o.report.closures R S o × RoomExactly bs limit limit R S o
room_after bs limit R o d S l = (
  d.room o.report.closures S l (omega arith) d.limits.closures,
  d.room limit S l d.limits.closures (omega arith),
)

pub carried : (bs : List ℕ) (limit : ℕ) (σ : Slices) (r : Report) (τ : Slices) → Tested bs limit σ r τ → Program bs limit σ r τ
carried bs limit σ r τ promised =
    let w = whole bs limit σ r τ promised in
    record {
      report = promised.report;
      long = long bs limit σ r τ promised;
      entries = stands bs limit σ r τ promised;
      rest = rest bs limit σ r τ promised;
      beyond = rest_later bs limit σ r τ promised _ (omega (arith, few bs limit σ r τ promised));
      untouched = λ k b. rw (untouched bs limit σ r τ promised _ ((refused_exactly bs limit (room_of σ) _).nothing b) refl);
      whole = w;
      demanded = demanded bs limit (room_of σ) (read_out r τ) w;
    }

-- whatever number the report refuses by, all that is lent is as before
pub refused_untouched :
    (bs : List ℕ) (limit : ℕ) (σ : Slices) (r : Report) (τ : Slices) → Program bs limit σ r τ → (b : Broken) → r.answer ≡ Refused b → τ ≡ σ
refused_untouched bs limit σ r τ p k h = p.untouched k ((p.demanded.refused k).exactly.0 h)
