-- The promise of each public function has one reading: the buffer afterwards, and the place that is returned. Assumes nothing.
use mathlib.Core.Path.{◌≡◌, sym, ◌∙◌}
use mathlib.Core.List.{List}
use Prim.Native.Nat.{ℕ}
use Rattle.numbers.proofs.Reading.{OneOutcome}
use Rattle.lines.specs.Buffer.{Written}
use Rattle.lines.proofs.put_first.Kinds as put_first_kinds
use Rattle.lines.proofs.put_first.Reads as put_first_reads
use Rattle.lines.proofs.put_entry.Kinds as put_entry_kinds
use Rattle.lines.proofs.put_entry.Reads as put_entry_reads
use Rattle.lines.proofs.put_root.Kinds as put_root_kinds
use Rattle.lines.proofs.put_root.Reads as put_root_reads
use Rattle.lines.proofs.put_link.Kinds as put_link_kinds
use Rattle.lines.proofs.put_link.Reads as put_link_reads
use Rattle.lines.proofs.put_word.Kinds as put_word_kinds
use Rattle.lines.proofs.put_word.Reads as put_word_reads

abbrev Back : Type 0
Back = List ℕ × ℕ

written_once : {line old new new' : List ℕ} {at r r' : ℕ} → Written line at old new r → Written line at old new' r'
    → ◌≡◌ {A = Back} (new, r) (new', r')
written_once p q i = ((p.buffer ∙ sym q.buffer) i, (p.place ∙ sym q.place) i)

pub one_reading_first : OneOutcome 1 put_first_kinds.ps put_first_kinds.r put_first_reads.Post {W = λ κs. Back} (λ κs r s. (s.0.now, r))
one_reading_first κs a x y s t p q = written_once p q

pub one_reading_entry : OneOutcome 1 put_entry_kinds.ps put_entry_kinds.r put_entry_reads.Post {W = λ κs. Back} (λ κs r s. (s.0.now, r))
one_reading_entry κs a x y s t p q = written_once p q

pub one_reading_root : OneOutcome 1 put_root_kinds.ps put_root_kinds.r put_root_reads.Post {W = λ κs. Back} (λ κs r s. (s.0.now, r))
one_reading_root κs a x y s t p q = written_once p q

pub one_reading_link : OneOutcome 1 put_link_kinds.ps put_link_kinds.r put_link_reads.Post {W = λ κs. Back} (λ κs r s. (s.0.now, r))
one_reading_link κs a x y s t p q = written_once p q

pub one_reading_word : OneOutcome 2 put_word_kinds.ps put_word_kinds.r put_word_reads.Post {W = λ κs. Back} (λ κs r s. (s.0.now, r))
one_reading_word κs a x y s t p q = written_once p q
