-- The test by the check's answer. Assumes nothing.
use mathlib.Core.Path.{◌≡◌, refl, ◌∙◌, subst}
use mathlib.Core.List.{List}
use Prim.Native.Nat.{ℕ}
use Rattle.std.specs.Prelude.{Ok, Err}
use Rattle.numbers.specs.Lists.{up_from}
use Rattle.grammar.specs.declared.Broken.{Broken}
use Rattle.grammar.specs.Table.{P, width_of, grammar_of}
use Rattle.grammar.specs.Refusal.{refusal}
use Rattle.grammar.proofs.Lookups.{productions_many}
use Rattle.grammar.proofs.Valid.{valid}
use Rattle.graph.specs.declared.Trail.{Trail}
use Rattle.graph.specs.Trails.{no_trail}
use Rattle.parts.specs.Sets.{Symbols}
use Rattle.parts.specs.Rule.{treed, reached, taking, if_whole}
use Rattle.parts.proofs.Tables.{valid_whole}
use Rattle.rules.specs.declared.Answer.TheVariants.{Refused}
use Rattle.rules.specs.declared.Report.{Report}
use Rattle.rules.specs.Passes.{Outcome, outcome, no_root, empty, passes}
use Rattle.rules.specs.Test.{system_in, saying, after_check, test}
use Rattle.passes.specs.Slices.{Slices, room_of, all_kids, Tells}
use Rattle.passes.specs.Follow.{parts_among}

module _ (bs : List ℕ) where
  -- the list that a pass goes over
  pub taking_is : (T R : Symbols) → refusal bs ≡ Ok tt → T ≡ if_whole bs (treed (grammar_of bs))
      → R ≡ if_whole bs (reached (grammar_of bs) T) → parts_among T R (grammar_of bs) (up_from 0 (P bs)) ≡ taking (grammar_of bs)
  unfolding taking
  taking_is T R h t r =
      rw (r ∙ valid_whole bs (valid bs h) _, t ∙ valid_whole bs (valid bs h) _, productions_many bs)

  -- the passes of a plan for this table and these slices
  pub passes_taken : (limit : ℕ) {room : ℕ} {planned : List ℕ} (σ : Slices) → planned ≡ bs → room ≡ room_of σ
      → passes (system_in planned) limit room (taking (grammar_of planned)) ≡ passes (system_in bs) limit (room_of σ) (taking (grammar_of bs))
  passes_taken limit σ e h = rw (e, h)

  pub test_taken : (limit room : ℕ) → refusal bs ≡ Ok tt
      → saying (width_of bs) (grammar_of bs) (passes (system_in bs) limit room (taking (grammar_of bs))) ≡ test bs limit room
  unfolding test after_check
  test_taken limit room h = rw h

  pub test_refused : (limit room : ℕ) (b : Broken) → refusal bs ≡ Err b → test bs limit room ≡ outcome (Refused b) no_root empty 0
  unfolding test after_check
  test_refused limit room b h = rw h

-- nothing is stored
pub tells_refused : (o : Outcome) (σ : Slices) (b : Broken) → o ≡ outcome (Refused b) no_root empty 0
    → {t : Trail} → t ≡ no_trail
    → Tells o σ (record { answer = Refused b; closures = 0; entries = 0; passes = 0; root = no_root; circle = t }) σ
unfolding all_kids
tells_refused o σ b e h =
    rw (e, h) (record { report = refl; symbols = refl; graphs = refl; productions = refl; kids = refl })

pub tells_same : {o p : Outcome} {σ : Slices} {r : Report} {τ : Slices} → o ≡ p → Tells o σ r τ → Tells p σ r τ
tells_same {σ} {r} {τ} e h = subst (λ (x : Outcome). Tells x σ r τ) e h
