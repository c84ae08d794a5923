-- The passes: from the state that was reached to the outcome, and what it tells. Assumes nothing.
use mathlib.Core.Path.{◌≡◌, refl, sym, ap, ◌∙◌}
use mathlib.Core.List.{List, map}
use Prim.Native.Nat.{ℕ, suc, ◌+◌, ◌-◌, ◌*◌, ◌≤◌}
use native.Mathlib.Nat.{le_refl, sub-zero}
use native.Mathlib.Numerals.{add-one}
use native.Mathlib.Omega.{arith}
use lib.ListN.{length, get_or}
use borrow.Author.Tests.{eq-eqb, ne_eqb}
use Rattle.numbers.specs.Lists.{written}
use Rattle.graph.specs.Trails.{no_trail}
use Rattle.rules.specs.declared.Answer.{Answer}
use Rattle.rules.specs.declared.Answer.TheVariants.{Noncircular}
use Rattle.rules.specs.declared.Entry.{Entry}
use Rattle.std.specs.Prelude.{Result, Ok, Err}
use Rattle.steps.specs.declared.Run.{Run}
use Rattle.steps.specs.declared.Stop.{Stop}
use Rattle.rules.specs.Passes.{System, State, Ran, no_root, pass, Outcome, outcome, after, passes_from, passes}
use Rattle.passes.specs.Slices.{Slices, room_of, Tells, entry_at, entries_to}
use Rattle.passes.specs.Follow.{ending_of, unsaid, state_of, ran_of, Beyond, Kept, Follows, Roomy}
use Rattle.passes.proofs.Entries.{length_entries, field_taken, kids_taken, written_over}
use Rattle.passes.proofs.Following.{kept_same, kept_then}

-- ---- the room of the slices

pub roomy_start : (room : ℕ) (σ : Slices) (r : Run) → room ≡ room_of σ → r.stored ≡ 0 → Roomy room σ r
roomy_start room σ r h e =
    record {
      symbols = omega arith;
      graphs = omega arith;
      productions = omega arith;
      kids = omega arith;
      stored = omega arith;
      small = omega arith;
    }

-- ---- what an outcome tells

pub tells : (o : Outcome) (room limit : ℕ) (σ : Slices) (r : Run) (τ : Slices) (q : Run) (a : Answer) (root : List ℕ) (begun : ℕ)
    → o ≡ outcome a root (state_of limit τ q) begun → Kept room σ r τ q → Roomy room τ q
    → Tells o σ (unsaid (ending_of a root limit q begun)) τ
unfolding entry_at
tells o room limit σ r τ q a root begun e k h =
    rw e
    (record {
      report =
          ap (λ (n : ℕ). record { answer = a; closures = limit - q.left; entries = n; passes = begun; root = root; circle = no_trail })
          (sym (length_entries τ q.stored));
      symbols = field (λ x. x.symbol) σ.symbols τ.symbols (λ i. refl) (omega (arith, h.stored, h.symbols)) k.symbols;
      graphs = field (λ x. x.graph) σ.graphs τ.graphs (λ i. refl) (omega (arith, h.stored, h.graphs)) k.graphs;
      productions =
          field (λ x. x.production) σ.productions τ.productions (λ i. refl) (omega (arith, h.stored, h.productions)) k.productions;
      kids =
          written_over (7 * q.stored) _ σ.kids τ.kids (kids_taken τ q.stored (omega (arith, h.stored, h.kids)))
          (omega (arith, h.stored, h.kids)) k.kids;
    })
  where
    field : (f : Entry → ℕ) (before after : List ℕ) → ((i : ℕ) → f (entry_at τ i) ≡ get_or after i 0) → q.stored ≤ length after
        → Beyond q.stored before after → after ≡ written (map f (entries_to τ q.stored)) before
    field f before after at l b = written_over q.stored _ before after (field_taken τ f after at q.stored l) l b

-- ---- a pass more, or the end

-- `begun` passes have begun, each of which stored an entry; the passes go on from here to their outcome
pub record Reached (W : System) (limit room : ℕ) (ps : List ℕ) (σ₀ : Slices) (r₀ : Run) (begun : ℕ) (σ : Slices) (r : Run) : Type 0 where
  pub kept : Kept room σ₀ r₀ σ r
  pub few : begun ≤ r.stored
  pub same : passes_from W limit room (suc room - begun) ps begun (state_of limit σ r) ≡ passes W limit room ps

module _ (W : System) (limit room : ℕ) (ps : List ℕ) (σ₀ : Slices) (r₀ : Run) (start : r₀.left ≡ limit) where
  pub reached_start : r₀.stored ≡ 0 → Reached W limit room ps σ₀ r₀ 0 σ₀ r₀
  unfolding passes entries_to
  reached_start e =
      let none : limit - r₀.left ≡ 0 = omega arith in
      record {
        kept = kept_same room σ₀ r₀ r₀ refl (le_refl _) (omega arith);
        few = omega arith;
        same = rw (e, none, sub-zero);
      }

  module _ (begun : ℕ) (σ : Slices) (r : Run) (reached : Reached W limit room ps σ₀ r₀ begun σ r) (τ : Slices) where
    more : State → Outcome
    more = passes_from W limit room (room - begun) ps (suc begun)

    -- the outcome after this pass
    next : (q : Result Run Stop) → Follows room (λ limit. pass W limit room ps) σ r τ q
        → passes W limit room ps ≡ after (state_of limit σ r) (suc begun) (ran_of limit τ q) more
    unfolding passes_from more
    next q f =
        let e : suc room - begun ≡ suc (room - begun) = omega (arith, reached.few, reached.kept.fits) in
        sym reached.same
        ∙ ap (λ (n : ℕ). passes_from W limit room n ps begun (state_of limit σ r)) e
        ∙ ap (λ (y : Ran). after (state_of limit σ r) (suc begun) y (passes_from W limit room (room - begun) ps (suc begun)))
        (sym (f.ran limit (omega (arith, reached.kept.left))))

    -- the run has stopped
    pub ends_stop : (q : Stop) → Follows room (λ limit. pass W limit room ps) σ r τ (Err q)
        → passes W limit room ps ≡ outcome q.answer q.root (state_of limit τ q.run) (begun + 1)
    ends_stop q f = rw add-one (next (Err q) f)

    module _ (q : Run) (f : Follows room (λ limit. pass W limit room ps) σ r τ (Ok q)) where
      -- nothing was stored
      pub ends_done : q.stored ≡ r.stored → passes W limit room ps ≡ outcome Noncircular no_root (state_of limit τ q) (begun + 1)
      ends_done e =
          rw add-one
          (next (Ok q) f
          ∙ rw (length_entries τ q.stored, length_entries σ r.stored, eq-eqb _ _ e))

      -- something was
      pub reached_more : (q.stored ≡ r.stored → ⊥) → Reached W limit room ps σ₀ r₀ (begun + 1) τ q
      unfolding more
      reached_more ne =
          let e : suc room - (begun + 1) ≡ room - begun = omega arith in
          record {
            kept = kept_then room σ₀ r₀ σ r reached.kept τ q f.kept;
            few = omega (arith, ne, f.kept.more, reached.few);
            same =
                rw (e, add-one)
                (sym
                (next (Ok q) f
                ∙ rw (length_entries τ q.stored, length_entries σ r.stored, ne_eqb _ _ ne)));
          }
