-- What it is to follow a rule: nothing, one thing after another, and what a stopped run does. Assumes nothing.
use mathlib.Core.Path.{◌≡◌, refl, sym, ap, ◌∙◌}
use mathlib.Core.List.{List, [], ◌∷◌, ◌++◌}
use Prim.Native.Nat.{ℕ, ◌+◌, ◌-◌, ◌*◌, ◌≤◌}
use native.Mathlib.Nat.{le_refl, le_trans}
use native.Mathlib.Omega.{arith}
use lib.ListN.{drop}
use lib.Seq.{drop-drop}
use Rattle.std.specs.Prelude.{Result, Ok, Err}
use Rattle.steps.specs.declared.Run.{Run}
use Rattle.steps.specs.declared.Stop.{Stop}
use Rattle.steps.specs.declared.Task.{Task}
use Rattle.rules.specs.Passes.{System, State, Ran, going, stopped, and_then, try, tries, turn, pass}
use Rattle.passes.specs.Slices.{Slices}
use Rattle.passes.specs.Follow.{state_of, run_in, Beyond, Kept, Follows, Roomy, InTurn}

-- ---- what is kept

pub drop_later : {A : Type 0} (n m : ℕ) (a b : List A) → n ≤ m → drop n a ≡ drop n b → drop m a ≡ drop m b
drop_later n m a b l h =
    let e : n + (m - n) ≡ m = omega arith in
    ap (λ (i : ℕ). drop i a) (sym e) ∙ sym (drop-drop (m - n) n a) ∙ ap (drop (m - n)) h ∙ drop-drop (m - n) n b ∙ ap (λ (i : ℕ). drop i b) e

beyond_then : (n m : ℕ) (a b c : List ℕ) → n ≤ m → Beyond n a b → Beyond m b c → Beyond m a c
beyond_then n m a b c l h i = record { long = i.long ∙ h.long; rest = i.rest ∙ drop_later n m b a l h.rest }

pub kept_same : (room : ℕ) (σ : Slices) (r q : Run) → q.stored ≡ r.stored → q.left ≤ r.left → r.stored ≤ room → Kept room σ r σ q
kept_same room σ r q e l h =
    record {
      symbols = record { long = refl; rest = refl };
      graphs = record { long = refl; rest = refl };
      productions = record { long = refl; rest = refl };
      kids = record { long = refl; rest = refl };
      stay = λ n i. refl;
      more = omega arith;
      fits = omega arith;
      left = l;
    }

module _ (room : ℕ) (σ : Slices) (r : Run) (τ : Slices) (q : Run) (a : Kept room σ r τ q) where
  pub kept_then : (υ : Slices) (p : Run) → Kept room τ q υ p → Kept room σ r υ p
  kept_then υ p b =
      record {
        symbols = beyond_then q.stored p.stored σ.symbols τ.symbols υ.symbols b.more a.symbols b.symbols;
        graphs = beyond_then q.stored p.stored σ.graphs τ.graphs υ.graphs b.more a.graphs b.graphs;
        productions =
            beyond_then q.stored p.stored σ.productions τ.productions υ.productions b.more a.productions b.productions;
        kids =
            beyond_then (7 * q.stored) (7 * p.stored) σ.kids τ.kids υ.kids (omega (arith, b.more)) a.kids b.kids;
        stay = λ n l. b.stay n (le_trans l a.more) ∙ a.stay n l;
        more = le_trans a.more b.more;
        fits = b.fits;
        left = le_trans b.left a.left;
      }

  pub kept_roomy : Roomy room σ r → Roomy room τ q
  kept_roomy h =
      record {
        symbols = omega (arith, h.symbols, a.symbols.long);
        graphs = omega (arith, h.graphs, a.graphs.long);
        productions = omega (arith, h.productions, a.productions.long);
        kids = omega (arith, h.kids, a.kids.long);
        stored = a.fits;
        small = h.small;
      }

-- a turn still goes on
pub kept_ready : (k : Task) (rights : List ℕ) (first : ℕ) (σ : Slices) (r : Run) (τ : Slices) (q : Run)
    → InTurn k rights first σ r → Kept k.room σ r τ q → InTurn k rights first τ q
kept_ready k rights first σ r τ q h a =
    record {
      roomy = kept_roomy k.room σ r τ q a h.roomy;
      first_held = le_trans h.first_held a.more;
      few = h.few;
      slots = h.slots;
    }

-- ---- `and_then`

then_going : (x : Ran) → x ≡ and_then x going
then_going (going s) = refl
then_going (stopped a root s) = refl

then_assoc : (x : Ran) (f g : State → Ran) → and_then (and_then x f) g ≡ and_then x (λ s. and_then (f s) g)
then_assoc (going s) f g = refl
then_assoc (stopped a root s) f g = refl

pub then_same : (x : Ran) (f g : State → Ran) → ((s : State) → f s ≡ g s) → and_then x f ≡ and_then x g
then_same (going s) f g h = h s
then_same (stopped a root s) f g h = refl

-- ---- following

module _ (room : ℕ) (σ : Slices) (r : Run) where
  pub follows_nothing : r.stored ≤ room → Follows room (λ limit. going) σ r σ (Ok r)
  follows_nothing h =
      record {
        kept = kept_same room σ r r refl (le_refl _) h;
        ran = λ limit l. refl;
      }

  module _ (f g : ℕ → State → Ran) (τ : Slices) where
    pub follows_then : (q : Run) → Follows room f σ r τ (Ok q) → (υ : Slices) (p : Result Run Stop) → Follows room g τ q υ p
        → Follows room (λ limit s. and_then (f limit s) (g limit)) σ r υ p
    follows_then q a υ p b =
        record {
          kept = kept_then room σ r τ q a.kept υ (run_in p) b.kept;
          ran =
              λ limit l. b.ran limit (le_trans a.kept.left l)
              ∙ ap (λ (x : Ran). and_then x (g limit)) (a.ran limit l);
        }

    -- a run that has stopped does nothing more, whatever the rule
    pub follows_stopped : (q : Stop) → Follows room f σ r τ (Err q) → Follows room (λ limit s. and_then (f limit s) (g limit)) σ r τ (Err q)
    follows_stopped q a = record { kept = a.kept; ran = λ limit l. ap (λ (x : Ran). and_then x (g limit)) (a.ran limit l) }

    module _ (q : Result Run Stop) (a : Follows room f σ r τ q) where
      -- the same rule, where it is the same at the state that σ and r say
      pub follows_here : ((limit : ℕ) → f limit (state_of limit σ r) ≡ g limit (state_of limit σ r)) → Follows room g σ r τ q
      follows_here h = record { kept = a.kept; ran = λ limit l. a.ran limit l ∙ h limit }

      pub follows_same : ((limit : ℕ) (s : State) → f limit s ≡ g limit s) → Follows room g σ r τ q
      follows_same h = follows_here (λ limit. h limit (state_of limit σ r))

-- ---- combinations and productions one after the other

module _ (W : System) (limit room : ℕ) where
  pub tries_append : (p : ℕ) (a b : List (List ℕ)) (s : State)
      → and_then (tries W limit room p a s) (tries W limit room p b) ≡ tries W limit room p (a ++ b) s
  unfolding tries
  tries_append p [] b s = refl
  tries_append p (c ∷ a) b s =
      then_assoc (try W limit room p c s) (tries W limit room p a) (tries W limit room p b)
      ∙ then_same (try W limit room p c s) _ _ (tries_append p a b)

  pub tries_one : (p : ℕ) (c : List ℕ) (s : State) → try W limit room p c s ≡ tries W limit room p (c ∷ []) s
  unfolding tries
  tries_one p c s = then_going (try W limit room p c s)

  pub tries_none : (p : ℕ) (s : State) → going s ≡ tries W limit room p [] s
  unfolding tries
  tries_none p s = refl

  pub pass_append : (a b : List ℕ) (s : State) → and_then (pass W limit room a s) (pass W limit room b) ≡ pass W limit room (a ++ b) s
  unfolding pass
  pass_append [] b s = refl
  pass_append (p ∷ a) b s =
      then_assoc (turn W limit room p s) (pass W limit room a) (pass W limit room b)
      ∙ then_same (turn W limit room p s) _ _ (pass_append a b)

  pub pass_one : (p : ℕ) (s : State) → turn W limit room p s ≡ pass W limit room (p ∷ []) s
  unfolding pass
  pass_one p s = then_going (turn W limit room p s)

  pub pass_none : (s : State) → going s ≡ pass W limit room [] s
  unfolding pass
  pass_none s = refl
