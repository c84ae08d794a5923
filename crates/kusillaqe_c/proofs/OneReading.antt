-- The promise of each exported function has one reading. Assumes nothing.
use mathlib.Core.List.{List}
use mathlib.Core.Path.{sym, ap, ◌∙◌}
use Prim.Native.Nat.{ℕ}
use Rattle.numbers.proofs.Reading.{OneOutcome, OneResult}
use Rattle.flats.specs.Flat.{flat}
use Rattle.passes.specs.Slices.{Slices, slices}
use Rattle.passes.proofs.OneReading.{Back, told_once}
use Rattle.kusillaqe_c.proofs.kusillaqe_check.Kinds as check_kinds
use Rattle.kusillaqe_c.proofs.kusillaqe_check.Reads as check_reads
use Rattle.kusillaqe_c.proofs.kusillaqe_test.Kinds as test_kinds
use Rattle.kusillaqe_c.proofs.kusillaqe_test.Reads as test_reads
use Rattle.kusillaqe_c.proofs.kusillaqe_own_rows.Kinds as own_rows_kinds
use Rattle.kusillaqe_c.proofs.kusillaqe_own_rows.Reads as own_rows_reads
use Rattle.kusillaqe_c.proofs.kusillaqe_place.Kinds as place_kinds
use Rattle.kusillaqe_c.proofs.kusillaqe_place.Reads as place_reads
use Rattle.kusillaqe_c.proofs.kusillaqe_close.Kinds as close_kinds
use Rattle.kusillaqe_c.proofs.kusillaqe_close.Reads as close_reads
use Rattle.kusillaqe_c.proofs.kusillaqe_has_circle.Kinds as has_circle_kinds
use Rattle.kusillaqe_c.proofs.kusillaqe_has_circle.Reads as has_circle_reads
use Rattle.kusillaqe_c.proofs.kusillaqe_circle.Kinds as circle_kinds
use Rattle.kusillaqe_c.proofs.kusillaqe_circle.Reads as circle_reads
use Rattle.kusillaqe_c.proofs.kusillaqe_path.Kinds as path_kinds
use Rattle.kusillaqe_c.proofs.kusillaqe_path.Reads as path_reads
use Rattle.kusillaqe_c.proofs.kusillaqe_root_graph.Kinds as root_graph_kinds
use Rattle.kusillaqe_c.proofs.kusillaqe_root_graph.Reads as root_graph_reads

pub one_reading_kusillaqe_check : OneOutcome 2 check_kinds.ps check_kinds.r check_reads.Post (λ κs r s. s.1.0.now)
one_reading_kusillaqe_check κs a x y s t p q = p ∙ sym q

-- the numbers, and every lent slice afterwards; the parameters at exit: table, limit, symbols, graphs, productions, kids, report
pub one_reading_kusillaqe_test :
    OneOutcome 6 test_kinds.ps test_kinds.r test_reads.Post {W = λ κs. List ℕ × Slices}
    (λ κs r s. (
      s.1.1.1.1.1.1.0.now,
      slices s.1.1.0.now s.1.1.1.0.now s.1.1.1.1.0.now s.1.1.1.1.1.0.now,
    ))
one_reading_kusillaqe_test κs a x y s t p q i =
    let told = told_once p.tested q.tested in
    ((p.numbers_are ∙ ap (λ (b : Back). flat b.0) told ∙ sym q.numbers_are) i, (told i).1)

-- the rows are lent: what comes back is what they hold afterwards
pub one_reading_kusillaqe_own_rows :
    OneOutcome 2 own_rows_kinds.ps own_rows_kinds.r own_rows_reads.Post (λ κs r s. s.1.0.now)
one_reading_kusillaqe_own_rows κs a x y s t p q = p ∙ sym q

pub one_reading_kusillaqe_place : OneOutcome 1 place_kinds.ps place_kinds.r place_reads.Post (λ κs r s. s.0.now)
one_reading_kusillaqe_place κs a x y s t p q = p ∙ sym q

pub one_reading_kusillaqe_close : OneOutcome 1 close_kinds.ps close_kinds.r close_reads.Post (λ κs r s. s.0.now)
one_reading_kusillaqe_close κs a x y s t p q = p ∙ sym q

pub one_reading_kusillaqe_has_circle : OneResult 1 has_circle_kinds.ps has_circle_kinds.r has_circle_reads.Post
one_reading_kusillaqe_has_circle κs a x y s t p q = p ∙ sym q

-- the parameters at exit: rows, occurrences, masks, circle
pub one_reading_kusillaqe_circle : OneOutcome 3 circle_kinds.ps circle_kinds.r circle_reads.Post (λ κs r s. s.1.1.1.0.now)
one_reading_kusillaqe_circle κs a x y s t p q = p ∙ sym q

-- rows, occurrences, masks, from, to, path
pub one_reading_kusillaqe_path : OneOutcome 3 path_kinds.ps path_kinds.r path_reads.Post (λ κs r s. s.1.1.1.1.1.0.now)
one_reading_kusillaqe_path κs a x y s t p q = p ∙ sym q

pub one_reading_kusillaqe_root_graph : OneResult 1 root_graph_kinds.ps root_graph_kinds.r root_graph_reads.Post
one_reading_kusillaqe_root_graph κs a x y s t p q = p ∙ sym q
