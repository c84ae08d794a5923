-- The promise of each public function has one reading. Assumes nothing.
use mathlib.Core.Path.{◌≡◌, sym, ap, ◌∙◌}
use mathlib.Core.List.{List}
use Prim.Native.Nat.{ℕ}
use Rattle.graph.specs.Rows.{root_graph}
use Rattle.compounds.specs.Combination.{closed_in}
use Rattle.numbers.proofs.Reading.{OneOutcome, OneResult}
use Rattle.steps.specs.declared.Task.{Task}
use Rattle.steps.specs.declared.Verdict.{Verdict}
use Rattle.steps.specs.Lent.{held, read}
use Rattle.steps.specs.Slices.{Slices}
use Rattle.steps.specs.Step.{slices_at, Tried}
use Rattle.steps.proofs.Lending.{Loans, loans, same_loans}
use Rattle.steps.proofs.room_of.Kinds as room_of_kinds
use Rattle.steps.proofs.room_of.Reads as room_of_reads
use Rattle.steps.proofs.entry_of.Kinds as entry_of_kinds
use Rattle.steps.proofs.entry_of.Reads as entry_of_reads
use Rattle.steps.proofs.Store.entries.Kinds as entries_kinds
use Rattle.steps.proofs.Store.entries.Reads as entries_reads
use Rattle.steps.proofs.Entries.room.Kinds as room_kinds
use Rattle.steps.proofs.Entries.room.Reads as room_reads
use Rattle.steps.proofs.Entries.entry.Kinds as entry_kinds
use Rattle.steps.proofs.Entries.entry.Reads as entry_reads
use Rattle.steps.proofs.going_on.Kinds as going_on_kinds
use Rattle.steps.proofs.going_on.Reads as going_on_reads
use Rattle.steps.proofs.stopped.Kinds as stopped_kinds
use Rattle.steps.proofs.stopped.Reads as stopped_reads
use Rattle.steps.proofs.try_one.Kinds as try_one_kinds
use Rattle.steps.proofs.try_one.Reads as try_one_reads

pub one_reading_entries : OneOutcome 2 entries_kinds.ps entries_kinds.r entries_reads.Post {W = λ κs. Slices} (λ κs r s. read r)
one_reading_entries κs a x y s t p q = p ∙ sym q

pub one_reading_room : OneResult 1 room_kinds.ps room_kinds.r room_reads.Post
one_reading_room κs a x y s t p q = p ∙ sym q

pub one_reading_entry : OneResult 1 entry_kinds.ps entry_kinds.r entry_reads.Post
one_reading_entry κs a x y s t p q = p ∙ sym q

pub one_reading_room_of : OneResult 0 room_of_kinds.ps room_of_kinds.r room_of_reads.Post
one_reading_room_of κs a x y s t p q = p ∙ sym q

pub one_reading_entry_of : OneResult 4 entry_of_kinds.ps entry_of_kinds.r entry_of_reads.Post
one_reading_entry_of κs a x y s t p q = p ∙ sym q

pub one_reading_going_on : OneResult 0 going_on_kinds.ps going_on_kinds.r going_on_reads.Post
one_reading_going_on κs a x y s t p q = p ∙ sym q

pub one_reading_stopped : OneResult 0 stopped_kinds.ps stopped_kinds.r stopped_reads.Post
one_reading_stopped κs a x y s t p q = p ∙ sym q

abbrev Back : Type 0
Back = Verdict × Slices

tried_once : {k : Task} {edges picked : List ℕ} {left stored : ℕ} {σ τ υ : Slices} {v u : Verdict}
    → Tried k edges picked left stored σ v τ → Tried k edges picked left stored σ u υ → ◌≡◌ {A = Back} (v, τ) (u, υ)
tried_once {k} {edges} {picked} {left} {stored} {σ} a b =
    let same = a.verdict_is ∙ sym b.verdict_is in
    λ i. (same i, (a.slices ∙ ap (λ (v : Verdict). slices_at v k (root_graph 8 (closed_in edges σ.graphs k.count picked)) picked stored σ) same ∙ sym b.slices) i)

-- the parameters at exit: store, edges, task, picked, run. What the store holds stands in the slices that were lent, since it is left
-- with these loans
pub one_reading_try_one :
    OneOutcome 4 try_one_kinds.ps try_one_kinds.r try_one_reads.Post {W = λ κs. Back × Loans}
    (λ κs r s. ((r, held s.0.now), loans s.0.now))
one_reading_try_one κs a x y s t p q i = (tried_once p.0 q.0 i, same_loans p.1 q.1 i)
