-- The promise of each public function has one reading. Assumes nothing.
use mathlib.Core.Bool.{Bool}
use mathlib.Core.List.{List}
use mathlib.Core.Path.{◌≡◌, sym, ◌∙◌}
use Prim.Native.Nat.{ℕ}
use Rattle.numbers.proofs.Reading.{OneOutcome, OneResult}
use Rattle.turns.specs.Moves.{Moved, Found}
use Rattle.turns.proofs.first_candidates.Kinds as first_candidates_kinds
use Rattle.turns.proofs.first_candidates.Reads as first_candidates_reads
use Rattle.turns.proofs.newest_place.Kinds as newest_place_kinds
use Rattle.turns.proofs.newest_place.Reads as newest_place_reads
use Rattle.turns.proofs.next_combination.Kinds as next_combination_kinds
use Rattle.turns.proofs.next_combination.Reads as next_combination_reads
use Rattle.turns.proofs.skip_old.Kinds as skip_old_kinds
use Rattle.turns.proofs.skip_old.Reads as skip_old_reads

-- whether there is such a combination, and its numbers
abbrev Back : Type 0
Back = Bool × List ℕ

found_once : {m : Moved} {a b : Bool} {xs ys : List ℕ} → Found m a xs → Found m b ys → ◌≡◌ {A = Back} (a, xs) (b, ys)
found_once f g i = ((f.more_is ∙ sym g.more_is) i, (f.numbers_are ∙ sym g.numbers_are) i)

-- the parameters at exit: symbols, rights, count, first, firsts
pub one_reading_first_candidates :
    OneOutcome 3 first_candidates_kinds.ps first_candidates_kinds.r first_candidates_reads.Post {W = λ κs. Back}
    (λ κs r s. (r, s.1.1.1.1.0.now))
one_reading_first_candidates κs a x y s t p q = found_once p q

-- the parameters at exit: symbols, rights, firsts, count, first, picked
pub one_reading_next_combination :
    OneOutcome 4 next_combination_kinds.ps next_combination_kinds.r next_combination_reads.Post {W = λ κs. Back}
    (λ κs r s. (r, s.1.1.1.1.1.0.now))
one_reading_next_combination κs a x y s t p q = found_once p q

pub one_reading_newest_place : OneResult 2 newest_place_kinds.ps newest_place_kinds.r newest_place_reads.Post
one_reading_newest_place κs a x y s t p q = p ∙ sym q

-- the numbers are lent: what comes back is what they are afterwards
pub one_reading_skip_old : OneOutcome 1 skip_old_kinds.ps skip_old_kinds.r skip_old_reads.Post (λ κs r s. s.0.now)
one_reading_skip_old κs a x y s t p q = p ∙ sym q
