-- Of an input longer than any table, what is not read changes nothing. Assumes nothing.
use Rattle.std.proofs.Common.{◌≡◌, List, [], ◌++◌, ℕ, ◌≤◌, ◌<◌, ◌∙◌, length, take, sym, ap, subst, arith, take_all, length-take-le, append-nil}
use native.Mathlib.Decide.{dec_le}
use lib.Seq.{take-append-le}
use Rattle.std.specs.Prelude.{Option, None, Some, Result, Ok, Err, MatchResult}
use Rattle.std.specs.Io.KnownBytes.{Appends}
use Rattle.answers.proofs.Longer.{whole_input}
use Rattle.circ.specs.declared.Failure.{Failure}
use Rattle.circ.specs.declared.Failure.TheVariants.{Unwritten}
use Rattle.circ.specs.Whole.{limit, room, table_bytes, circ_text, Taken, Answered}

pub first_bytes : (input : List ℕ) → circ_text (take table_bytes input) ≡ circ_text input
unfolding circ_text
first_bytes input = whole_input input limit room

-- what was read has the text of the whole input
same_text : (input rest buf : List ℕ) (n : ℕ) → table_bytes ≡ length buf → n ≤ length buf → input ≡ take n buf ++ rest → (n < length buf → rest ≡ [])
    → circ_text (take n buf) ≡ circ_text input
same_text input rest buf n full most is ends = go (dec_le (length buf) n)
  where
    first : List ℕ
    first = take n buf

    count : length first ≡ n
    count = length-take-le n buf most

    go : Dec (length buf ≤ n) → circ_text first ≡ circ_text input
    go (yes l) =
        let all : table_bytes ≤ length first = rw count (omega arith) in
        let few : length first ≤ table_bytes = rw count (omega arith) in
        let front : take table_bytes input ≡ first = ap (take table_bytes) is ∙ take-append-le table_bytes first rest all ∙ take_all table_bytes first few in
        ap circ_text (sym front) ∙ first_bytes input
    go (no f) = ap circ_text (sym (is ∙ ap (λ r. first ++ r) (ends (omega arith)) ∙ append-nil first))

-- what was printed of what was read answers for the whole input
pub answered : (input left old new : Option (List ℕ)) (n : ℕ) (buf : List ℕ) (r : Result (Unit {0}) Failure)
    → MatchResult r (λ _. Appends old new (circ_text (take n buf))) (λ e. e ≡ Unwritten)
    → table_bytes ≡ length buf → n ≤ length buf → Taken input left (Ok n) buf → Answered input old new r
answered None left old new n buf (Ok _) put full most taken = tt
answered (Some input) None old new n buf (Ok _) put full most (taken, ends) = absurd taken
answered (Some input) (Some rest) old new n buf (Ok _) put full most (taken, ends) =
    subst (Appends old new) (same_text input rest buf n full most taken ends) put
answered input left old new n buf (Err e) is full most taken = rw is tt
