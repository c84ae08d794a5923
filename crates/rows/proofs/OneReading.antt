-- Two results that meet the promise of a public function, on the same arguments, are equal, and so is the row afterwards. What is cited is
-- the promise itself, as it stands in the source. It is said twice: of the promise as the check reads it, and in the logic: in every model
-- of it, whoever has the promise of both has that they are equal. Assumes nothing.
use mathlib.Core.Path.{◌≡◌, sym, ◌∙◌}
use seplogic.Ra.Ura.{Ura}
use base.Logic.{SProp, ent, sep}
use prog.Memory.{Memory}
use prog.Routine.{Routine}
use types.Logic.{Logic}
use contract.Lifetimes.{Lfts}
use contract.Monad.{Fun, fact, fact_mono}
use denote.Triple.Clauses.{AtExit}
use denote.Triple.Entry.{Args, Res}
use denote.Triple.Walked.{needs}
use Rattle.numbers.proofs.Reading.{OneOutcome, OneResult}
use Rattle.rows.proofs.entry_at.Kinds as entry_at_kinds
use Rattle.rows.proofs.entry_at.Reads as entry_at_reads
use Rattle.rows.proofs.put_entry.Kinds as put_entry_kinds
use Rattle.rows.proofs.put_entry.Reads as put_entry_reads
use Rattle.rows.specs.contracts.entry_at as entry_at
use Rattle.rows.specs.contracts.put_entry as put_entry

pub one_reading_entry_at_plain : OneResult 1 entry_at_kinds.ps entry_at_kinds.r entry_at_reads.Post
one_reading_entry_at_plain κs a x y s t p q = p ∙ sym q

-- the row is lent: what comes back is what it holds afterwards
pub one_reading_put_entry_plain : OneOutcome 1 put_entry_kinds.ps put_entry_kinds.r put_entry_reads.Post (λ κs r s. s.0.now)
one_reading_put_entry_plain κs a x y s t p q = p ∙ sym q

module _ {M : Type 1} (𝓤 : Ura M) where
  pub both : {φ ψ : Type 0} (χ : Type 0) → (φ → ψ → χ) → ent 𝓤 (sep 𝓤 (fact 𝓤 φ) (fact 𝓤 ψ)) (fact 𝓤 χ)
  both {φ} {ψ} χ h = needs 𝓤 ψ (fact 𝓤 φ) (λ q. fact_mono 𝓤 φ χ (λ p. h p q))

module _ {M : Type 1} {𝓤 : Ura M} (𝓛 : Logic 𝓤) (mem : Memory → SProp 𝓤) (run : Routine → Fun 𝓤) where
  pub one_reading_entry_at : (κs : Lfts 1) (a : Args entry_at.signature κs) (x y : Res entry_at.signature κs) (s t : AtExit entry_at.ended κs)
      → ent 𝓤 (sep 𝓤 ((entry_at.clauses 𝓛 mem run κs a).ensures tt x s) ((entry_at.clauses 𝓛 mem run κs a).ensures tt y t)) (fact 𝓤 (x ≡ y))
  one_reading_entry_at κs a x y s t = both 𝓤 (x ≡ y) (λ p q. p ∙ sym q)

  pub one_reading_put_entry : (κs : Lfts 1) (a : Args put_entry.signature κs) (x y : Res put_entry.signature κs) (s t : AtExit put_entry.ended κs)
      → ent 𝓤 (sep 𝓤 ((put_entry.clauses 𝓛 mem run κs a).ensures tt x s) ((put_entry.clauses 𝓛 mem run κs a).ensures tt y t))
      (fact 𝓤 (s.0.now ≡ t.0.now))
  one_reading_put_entry κs a x y s t = both 𝓤 (s.0.now ≡ t.0.now) (λ p q. p ∙ sym q)
