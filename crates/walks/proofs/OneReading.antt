-- The promise of each public function has one reading. Assumes nothing.
use mathlib.Core.Path.{◌≡◌, sym, ap, subst, ◌∙◌}
use Rattle.parts.proofs.Sets.{IsSet, set_prop}
use Rattle.walks.specs.declared.SymbolSet.{SymbolSet}
use Rattle.grammar.specs.Table.{grammar_of}
use Rattle.parts.specs.Rule.{if_whole, reached}
use Rattle.numbers.proofs.Reading.{OneResult}
use Rattle.walks.proofs.treed_of.Kinds as treed_of_kinds
use Rattle.walks.proofs.treed_of.Reads as treed_of_reads
use Rattle.walks.proofs.reached_of.Kinds as reached_of_kinds
use Rattle.walks.proofs.reached_of.Reads as reached_of_reads
use Rattle.walks.proofs.takes_part.Kinds as takes_part_kinds
use Rattle.walks.proofs.takes_part.Reads as takes_part_reads
use Rattle.walks.proofs.TakingPart.of.Kinds as of_kinds
use Rattle.walks.proofs.TakingPart.of.Reads as of_reads
use Rattle.walks.proofs.TakingPart.has.Kinds as has_kinds
use Rattle.walks.proofs.TakingPart.has.Reads as has_reads

-- a set is told by its numbers
same_words : {A B : SymbolSet} → A.words ≡ B.words → A ≡ B
same_words {A} {B} e =
    subst (λ ws. (j : IsSet ws) → A ≡ record { words = ws; is_set = j }) e
    (λ j i. record { words = A.words; is_set = set_prop A.words A.is_set j i })
    B.is_set

pub one_reading_treed_of : OneResult 1 treed_of_kinds.ps treed_of_kinds.r treed_of_reads.Post
one_reading_treed_of κs a x y s t p q = same_words (p ∙ sym q)

pub one_reading_reached_of : OneResult 2 reached_of_kinds.ps reached_of_kinds.r reached_of_reads.Post
one_reading_reached_of κs a x y s t p q = same_words (p ∙ sym q)

pub one_reading_takes_part : OneResult 2 takes_part_kinds.ps takes_part_kinds.r takes_part_reads.Post
one_reading_takes_part κs a x y s t p q = p ∙ sym q

pub one_reading_taking_part_of : OneResult 1 of_kinds.ps of_kinds.r of_reads.Post
one_reading_taking_part_of κs a x y s t p q =
    let same = p.0 ∙ sym q.0 in
    let first = same_words same in
    let second = same_words (p.1 ∙ ap (λ T. if_whole a.0.now (reached (grammar_of a.0.now) T)) same ∙ sym q.1) in
    λ i. record { treed = first i; reached = second i }

pub one_reading_taking_part_has : OneResult 2 has_kinds.ps has_kinds.r has_reads.Post
one_reading_taking_part_has κs a x y s t p q = p ∙ sym q
