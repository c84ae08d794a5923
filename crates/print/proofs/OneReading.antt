-- The promise of each public function has one reading: the buffer afterwards, and the place or the length that is returned. Assumes
-- nothing.
use mathlib.Core.Bool.{Bool}
use mathlib.Core.List.{List}
use mathlib.Core.Path.{◌≡◌, sym, ◌∙◌}
use Prim.Native.Nat.{ℕ}
use Rattle.numbers.proofs.Reading.{OneOutcome}
use Rattle.print.specs.Texts.{Printed}
use Rattle.print.proofs.put_circle.Kinds as put_circle_kinds
use Rattle.print.proofs.put_circle.Reads as put_circle_reads
use Rattle.print.proofs.report_text.Kinds as report_text_kinds
use Rattle.print.proofs.report_text.Reads as report_text_reads

abbrev pub Back : Type 0
Back = List ℕ × ℕ

pub printed_once : {text : List ℕ} {ok : Bool} {old new new' : List ℕ} {r r' : ℕ} → Printed text ok old new r → Printed text ok old new' r'
    → ◌≡◌ {A = Back} (new, r) (new', r')
printed_once p q i = ((p.buffer ∙ sym q.buffer) i, (p.count ∙ sym q.count) i)

pub one_reading_put_circle :
    OneOutcome 1 put_circle_kinds.ps put_circle_kinds.r put_circle_reads.Post {W = λ κs. Back} (λ κs r s. (s.0.now, r))
one_reading_put_circle κs a x y s t p q i = ((p.buffer ∙ sym q.buffer) i, (p.place ∙ sym q.place) i)

pub one_reading_report_text :
    OneOutcome 3 report_text_kinds.ps report_text_kinds.r report_text_reads.Post {W = λ κs. Back} (λ κs r s. (s.0.now, r))
one_reading_report_text κs a x y s t p q = printed_once p q
