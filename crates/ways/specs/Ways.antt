-- Every way in. Whatever meets the promise of a test, as the check reads the promise off the source, meets all that is asked of an outcome:
-- over lent slices, over a lent row of records, and where Rust and C call it. And what is printed of an outcome tells the outcome. Assumes
-- nothing.
use Rattle.std.specs.Prelude.{cond, List, ◌≡◌, ℕ, ◌+◌, ◌<◌, eqb, length, get_or, take, drop}
use seplogic.Ra.Ura.{Ura}
use base.Logic.{SProp, ent}
use prog.Memory.{Memory}
use prog.Routine.{Routine}
use types.Logic.{Logic}
use contract.Lifetimes.{Lfts}
use contract.Monad.{Fun, fact}
use denote.Triple.Clauses.{AtExit}
use denote.Triple.Entry.{Args, Res}
use borrow.Fn.Kinds.{Dens, ended_of, res_t}
use Rattle.grammar.specs.declared.Broken.{Broken}
use Rattle.grammar.specs.declared.Broken.TheVariants.{Record}
use Rattle.grammar.specs.Rules.{Breaks}
use Rattle.graph.specs.declared.Trail.{Trail}
use Rattle.graph.specs.Parts.{most_nodes}
use Rattle.rules.specs.declared.Answer.{Answer}
use Rattle.rules.specs.declared.Answer.TheVariants.{Noncircular, Circular, Refused}
use Rattle.rules.specs.declared.Report.{Report}
use Rattle.rules.specs.declared.Entry.{Entry}
use Rattle.rules.specs.Passes.{Outcome, numbered, no_value, entry}
use Rattle.texts.specs.Lines.{kids_in, printed}
use Rattle.steps.specs.Lent.{held, Lent}
use Rattle.passes.specs.Slices.{Slices, slices}
use Rattle.passes.proofs.test.Kinds as slices_kinds
use Rattle.passes.proofs.test.Reads as slices_reads
use Rattle.records.specs.Records.{row_room}
use Rattle.records.proofs.test.Kinds as row_kinds
use Rattle.records.proofs.test.Reads as row_reads
use Rattle.records.specs.contracts.test as row
use Rattle.flats.specs.Flat.{flat}
use Rattle.kusillaqe.proofs.kusillaqe_test.Kinds as export_kinds
use Rattle.kusillaqe.proofs.kusillaqe_test.Reads as export_reads
use Rattle.verdict.specs.Demands.{back}
use Rattle.ways.specs.Program.{Demanded, Program}

-- ---- over lent slices: `passes::test`, with its parameters table, limit, store

module _ (κs : Lfts 3) where
  -- the arguments of a call, and the parameters when it returns
  abbrev pub SlicesIn : Type 0
  SlicesIn = Dens κs slices_kinds.ps

  abbrev pub SlicesOut : Type 0
  SlicesOut = AtExit (ended_of 3 slices_kinds.ps slices_kinds.r) κs

  -- what the slices of the store hold, before and after; they are the same slices
  abbrev pub slices_given : SlicesIn → Slices
  slices_given a = held a.1.1.0.now

  abbrev pub slices_left : SlicesOut → Slices
  slices_left s = held s.1.1.0.now

abbrev pub ProgramAlways : Type 0
ProgramAlways =
    (κs : Lfts 3) (a : SlicesIn κs) (r : Report) (s : SlicesOut κs) → slices_reads.Post κs a r s
    → Program a.0.now a.1.0 (slices_given κs a) r (slices_left κs s) × Lent a.1.1.0.now s.1.1.0.now

-- ---- over a lent row of records: `records::test`, with its parameters table, limit, entries

-- what a caller reads: the report, and as many records at the front of the row as it says
abbrev pub read_row : Report → List Entry → Outcome
read_row r row = record { report = r; entries = take r.entries row }

pub record RowProgram (bs : List ℕ) (limit : ℕ) (before : List Entry) (r : Report) (after : List Entry) : Type 0 where
  -- the report with its counts, its root and its circle, every entry, and the rest of the row; after a refusal all of it
  pub report : r ≡ (back bs limit (row_room before)).report
  pub long : length after ≡ length before
  pub entries : (k : ℕ) → k < r.entries → entry after k ≡ entry (back bs limit (row_room before)).entries k
  pub rest : drop r.entries after ≡ drop r.entries before
  -- however many records are lent, those beyond 4,096 are never used
  pub beyond : drop 4096 after ≡ drop 4096 before
  pub untouched : (b : Broken) → Breaks bs b → after ≡ before
  pub whole : read_row r after ≡ back bs limit (row_room before)
  pub demanded : Demanded bs limit (row_room before) (read_row r after)

abbrev pub RowPlainAlways : Type 0
RowPlainAlways =
    (κs : Lfts 2) (a : Dens κs row_kinds.ps) (r : Report) (s : AtExit (ended_of 2 row_kinds.ps row_kinds.r) κs)
    → row_reads.Post κs a r s → RowProgram a.0.now a.1.0 a.1.1.0.now r s.1.1.0.now

-- the same, said in the logic: in every model of it, whoever has the promise has all this
abbrev pub RowAlways : Type 2
RowAlways =
    (M : Type 1) (𝓤 : Ura M) (𝓛 : Logic 𝓤) (mem : Memory → SProp 𝓤) (run : Routine → Fun 𝓤)
    (κs : Lfts 2) (a : Args row.signature κs) (r : Res row.signature κs) (s : AtExit row.ended κs)
    → ent 𝓤 ((row.clauses 𝓛 mem run κs a).ensures tt r s)
    (fact 𝓤 (RowProgram a.0.now a.1.0 a.1.1.0.now r s.1.1.0.now))

-- ---- where Rust and C call it: `kusillaqe::kusillaqe_test`, with its parameters table, limit, symbols, graphs, productions, kids, and one for
-- 141 numbers

-- how a caller reads the answer, from its number and the value beside it: 0 is noncircular, 255 circular, any other the rules' number, with
-- a record where the value is one
abbrev pub answer_from : ℕ → ℕ → Answer
answer_from number value =
    cond (eqb number 0) Noncircular
    (cond (eqb number 255) (Circular value) (cond (eqb value no_value) (numbered number) (Refused (Record number value))))

-- the circle, from how many nodes it has, its 64 places for nodes and its 64 for marks
abbrev pub unflat_trail : List ℕ → Trail
unflat_trail numbers =
    record { nodes = take most_nodes (drop 1 numbers); marks = drop (1 + most_nodes) numbers; len = get_or numbers 0 0 }

-- and the report from all of them
abbrev pub unflat : List ℕ → Report
unflat numbers =
    record {
      answer = answer_from (get_or numbers 0 0) (get_or numbers 1 0);
      closures = get_or numbers 2 0;
      entries = get_or numbers 3 0;
      passes = get_or numbers 4 0;
      root = take 7 (drop 5 numbers);
      circle = unflat_trail (drop 12 numbers);
    }

-- the numbers of any outcome of a table tell its report: the answer with its value, the three counts, the root and the circle
abbrev pub NumbersTell : Type 0
NumbersTell = (bs : List ℕ) (limit room : ℕ) → unflat (flat (back bs limit room).report) ≡ (back bs limit room).report

module _ (κs : Lfts 6) where
  abbrev pub ExportIn : Type 0
  ExportIn = Dens κs export_kinds.ps

  abbrev pub ExportOut : Type 0
  ExportOut = AtExit (ended_of 6 export_kinds.ps export_kinds.r) κs

  abbrev pub export_given : ExportIn → Slices
  export_given a = slices a.1.1.0.now a.1.1.1.0.now a.1.1.1.1.0.now a.1.1.1.1.1.0.now

  abbrev pub export_left : ExportOut → Slices
  export_left s = slices s.1.1.0.now s.1.1.1.0.now s.1.1.1.1.0.now s.1.1.1.1.1.0.now

  abbrev pub numbers_left : ExportOut → List ℕ
  numbers_left s = s.1.1.1.1.1.1.0.now

-- of the report that a caller reads off the numbers, and of the slices
abbrev pub ExportAlways : Type 0
ExportAlways =
    (κs : Lfts 6) (a : ExportIn κs) (r : (res_t export_kinds.r κs).Denot) (s : ExportOut κs) → export_reads.Post κs a r s
    → Program a.0.now a.1.0 (export_given κs a) (unflat (numbers_left κs s)) (export_left κs s)

-- ---- the printed text

-- what `circ` would print of a table, for a limit and a room
abbrev pub table_text : List ℕ → ℕ → ℕ → List ℕ
table_text bs limit room = printed (kids_in bs) (back bs limit room)

-- it tells the outcome: whatever the tables, limits and rooms, no two outcomes print the same
abbrev pub TextTells : Type 0
TextTells =
    (bs bs' : List ℕ) (limit limit' room room' : ℕ) → table_text bs limit room ≡ table_text bs' limit' room'
    → back bs limit room ≡ back bs' limit' room'

-- ---- a wrong version: one that changes what is lent, though the table is bad

abbrev pub TouchedFalls : Type 0
TouchedFalls =
    (bs : List ℕ) (limit : ℕ) (b : Broken) (σ : Slices) (r : Report) (τ : Slices) → Breaks bs b → ¬ (τ ≡ σ) → ¬ Program bs limit σ r τ

abbrev pub TouchedRowFalls : Type 0
TouchedRowFalls =
    (bs : List ℕ) (limit : ℕ) (b : Broken) (before : List Entry) (r : Report) (after : List Entry) → Breaks bs b → ¬ (after ≡ before)
    → ¬ RowProgram bs limit before r after
