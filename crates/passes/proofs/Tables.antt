-- What a table that is not refused gives to a turn. Assumes nothing.
use mathlib.Core.Path.{◌≡◌, refl, ap, ◌∙◌, subst}
use mathlib.Core.List.{List}
use Prim.Native.Nat.{ℕ, ◌≤◌}
use native.Mathlib.Nat.{le_refl}
use native.Mathlib.Omega.{arith}
use lib.ListN.{replicate}
use lib.Seq.{length-take-le}
use Rattle.std.specs.Prelude.{Ok}
use Rattle.grammar.specs.declared.Edge.{Edge}
use Rattle.grammar.specs.Grammar.{Grammar, production, edges_of}
use Rattle.grammar.specs.Table.{P, edges_in, grammar_of}
use Rattle.grammar.specs.Refusal.{refusal}
use Rattle.grammar.specs.Reading.{run_of}
use Rattle.grammar.specs.Valid.{Valid}
use Rattle.grammar.proofs.Valid.{valid}
use Rattle.graph.specs.Rows.{own, closure, has_circle, root_graph}
use Rattle.graph.proofs.Tables.{few_rights, rows_made}
use Rattle.std.specs.Prelude.{Result}
use Rattle.steps.specs.declared.Run.{Run}
use Rattle.steps.specs.declared.Stop.{Stop}
use Rattle.steps.specs.declared.Task.{Task}
use Rattle.rules.specs.Passes.{turn}
use Rattle.rules.specs.Test.{system_of, system_in}
use Rattle.grammar.proofs.Lookups.{slots_seven}
use Rattle.compounds.specs.Combination.{closed_over}
use Rattle.passes.specs.Slices.{Slices}
use Rattle.passes.specs.Follow.{Follows, Roomy, InTurn, system_by, over, task_of, combos_in}
use Rattle.passes.proofs.Systems.{Agrees, turn_follows}

-- ---- a table that is not refused

module _ (bs : List ℕ) (good : refusal bs ≡ Ok tt) where
  abbrev g : Grammar
  g = grammar_of bs

  taken : Valid bs
  taken = valid bs good

  pub few_productions : P bs ≤ 512
  few_productions = taken.counts.productions

  pub own_edges : (p : ℕ) → edges_in (run_of bs p) ≡ edges_of g p
  own_edges p = taken.runs p

  pub agrees : (p room : ℕ) → Agrees (system_in bs) (task_of p (production g p) room) (production g p).slots (run_of bs p)
  unfolding task_of system_of system_by
  agrees p room =
      let own = ap (λ (es : List Edge). own 8 es (replicate 64 0)) (own_edges p) in
      record {
        left = refl;
        rights_are = refl;
        long = length-take-le (production g p).n (production g p).slots (omega (arith, few_rights bs good p, slots_seven bs p));
        graph =
            λ gs h. ap (λ (l : List ℕ). root_graph 8 (closed_over l gs)) own
            ∙ ap (λ (l : List ℕ). root_graph 8 (closure l)) (rows_made bs good p gs h);
        circle =
            λ gs h. ap (λ (l : List ℕ). has_circle (closed_over l gs)) own ∙ ap (λ (l : List ℕ). has_circle (closure l)) (rows_made bs good p gs h);
      }

  -- a turn begins
  module _ (p room : ℕ) (σ : Slices) (r : Run) where
    pub turn_ready : Roomy room σ r → (k : Task) → k ≡ task_of p (production g p) room → (rights : List ℕ) → rights ≡ (production g p).slots
        → InTurn k rights r.stored σ r
    unfolding task_of
    turn_ready h k made rights are =
        rw (made, are)
        (record {
          roomy = h;
          first_held = le_refl r.stored;
          few = few_rights bs good p;
          slots = slots_seven bs p;
        })

    -- where all its combinations are followed, the turn is
    pub task_turn : (k : Task) → k ≡ task_of p (production g p) room → (rights : List ℕ) → rights ≡ (production g p).slots
        → (edges : List ℕ) → edges ≡ run_of bs p → (τ : Slices) (q : Result Run Stop)
        → Follows k.room (over k rights edges (combos_in k rights r.stored σ.symbols)) σ r τ q
        → Follows room (λ limit. turn (system_in bs) limit room p) σ r τ q
    unfolding task_of
    task_turn k made rights are edges is τ q f =
        turn_follows (system_in bs) (task_of p (production g p) room) (production g p).slots (run_of bs p) (agrees p room)
        (omega (arith, few_rights bs good p, slots_seven bs p)) σ r τ q
        (subst (λ (l : List ℕ). Follows room (over (task_of p (production g p) room) (production g p).slots l
        (combos_in (task_of p (production g p) room) (production g p).slots r.stored σ.symbols)) σ r τ q) is
        (subst (λ (l : List ℕ). Follows room (over (task_of p (production g p) room) l edges
        (combos_in (task_of p (production g p) room) l r.stored σ.symbols)) σ r τ q) are
        (subst (λ (t : Task). Follows t.room (over t rights edges (combos_in t rights r.stored σ.symbols)) σ r τ q) made f)))
