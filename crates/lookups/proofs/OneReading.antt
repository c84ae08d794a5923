-- The promise of the public function has one reading, said plainly and in the logic as in `rows`. Assumes nothing.
use mathlib.Core.Path.{◌≡◌, sym, ◌∙◌}
use seplogic.Ra.Ura.{Ura}
use base.Logic.{SProp, ent, sep}
use prog.Memory.{Memory}
use prog.Routine.{Routine}
use types.Logic.{Logic}
use contract.Lifetimes.{Lfts}
use contract.Monad.{Fun, fact}
use denote.Triple.Clauses.{AtExit}
use denote.Triple.Entry.{Args, Res}
use Rattle.numbers.proofs.Reading.{OneResult}
use Rattle.rows.proofs.OneReading.{both}
use Rattle.lookups.proofs.lookup.Kinds as lookup_kinds
use Rattle.lookups.proofs.lookup.Reads as lookup_reads
use Rattle.lookups.specs.contracts.lookup as lookup

pub one_reading_lookup_plain : OneResult 1 lookup_kinds.ps lookup_kinds.r lookup_reads.Post
one_reading_lookup_plain κs a x y s t p q = p ∙ sym q

module _ {M : Type 1} {𝓤 : Ura M} (𝓛 : Logic 𝓤) (mem : Memory → SProp 𝓤) (run : Routine → Fun 𝓤) where
  pub one_reading_lookup : (κs : Lfts 1) (a : Args lookup.signature κs) (x y : Res lookup.signature κs) (s t : AtExit lookup.ended κs)
      → ent 𝓤 (sep 𝓤 ((lookup.clauses 𝓛 mem run κs a).ensures tt x s) ((lookup.clauses 𝓛 mem run κs a).ensures tt y t)) (fact 𝓤 (x ≡ y))
  one_reading_lookup κs a x y s t = both 𝓤 (x ≡ y) (λ p q. p ∙ sym q)
