-- A pass: one production after the other, of those that pass a test. Assumes nothing.
use mathlib.Core.Bool.{Bool, true, false}
use mathlib.Core.Path.{◌≡◌, refl, sym, ap, ◌∙◌}
use mathlib.Core.List.{List, [], ◌∷◌, ◌++◌}
use Prim.Native.Nat.{ℕ, ◌+◌, ◌-◌, ◌≤◌, ◌<◌}
use native.Mathlib.Omega.{arith}
use Rattle.numbers.specs.Lists.{up_from, keep}
use Rattle.grammar.specs.Grammar.{production}
use Rattle.grammar.specs.Table.{grammar_of}
use Rattle.parts.specs.Sets.{Symbols}
use Rattle.parts.specs.Rule.{takes_part}
use Rattle.numbers.proofs.Keeping.{up_more, keep_append}
use Rattle.std.specs.Prelude.{Result, Ok, Err}
use Rattle.steps.specs.declared.Run.{Run}
use Rattle.steps.specs.declared.Stop.{Stop}
use Rattle.rules.specs.Passes.{System, State, Ran, going, and_then, turn, pass}
use Rattle.passes.specs.Slices.{Slices}
use Rattle.passes.specs.Follow.{Follows}
use Rattle.passes.proofs.Following.{follows_nothing, follows_stopped, follows_then, follows_same, pass_append, pass_one, pass_none}

-- whether a production of a table takes part, by its number and the two sets
abbrev pub part_by : Symbols → Symbols → List ℕ → ℕ → Bool
part_by treed reached bs p = takes_part treed reached (production (grammar_of bs) p)

module _ (W : System) (room : ℕ) (part : ℕ → Bool) where
  -- the rule of a pass over the productions of a list that take part
  abbrev pub through : List ℕ → ℕ → State → Ran
  through ps limit = pass W limit room (keep part ps)

  through_both : (a b c : List ℕ) → a ++ b ≡ c → (limit : ℕ) (s : State) → and_then (through a limit s) (through b limit) ≡ through c limit s
  through_both a b c e limit s =
      pass_append W limit room (keep part a) (keep part b) s
      ∙ ap (λ (l : List ℕ). pass W limit room l s) (sym (keep_append part a b) ∙ ap (keep part) e)

  through_then : (σ τ υ : Slices) (r q : Run) (p : Result Run Stop) (a b c : List ℕ) → a ++ b ≡ c
      → Follows room (through a) σ r τ (Ok q) → Follows room (through b) τ q υ p → Follows room (through c) σ r υ p
  through_then σ τ υ r q p a b c e f g =
      follows_same room σ r _ (through c) υ p (follows_then room σ r (through a) (through b) τ q f υ p g) (through_both a b c e)

  through_stopped : (σ τ : Slices) (r : Run) (q : Stop) (a b c : List ℕ) → a ++ b ≡ c
      → Follows room (through a) σ r τ (Err q) → Follows room (through c) σ r τ (Err q)
  through_stopped σ τ r q a b c e f =
      follows_same room σ r _ (through c) τ (Err q) (follows_stopped room σ r (through a) (through b) τ q f) (through_both a b c e)

  -- ---- one production
  module _ (p : ℕ) (σ : Slices) (r : Run) where
    pub part_turn : part p ≡ true → (τ : Slices) (q : Result Run Stop) → Follows room (λ limit. turn W limit room p) σ r τ q
        → Follows room (through (p ∷ [])) σ r τ q
    unfolding keep
    part_turn h τ q f =
        follows_same room σ r (λ limit. turn W limit room p) (through (p ∷ [])) τ q f
        (λ limit s. rw h (pass_one W limit room p s))

    pub part_skip : part p ≡ false → r.stored ≤ room → Follows room (through (p ∷ [])) σ r σ (Ok r)
    unfolding keep
    part_skip h l =
        follows_same room σ r (λ limit. going) (through (p ∷ [])) σ (Ok r) (follows_nothing room σ r l)
        (λ limit s. rw h (pass_none W limit room s))

    -- where its turn does nothing, it is the same whether it takes part
    pub part_still : r.stored ≤ room → Follows room (λ limit. turn W limit room p) σ r σ (Ok r) → Follows room (through (p ∷ [])) σ r σ (Ok r)
    part_still l f = go (part p) refl
      where
        go : (b : Bool) → part p ≡ b → Follows room (through (p ∷ [])) σ r σ (Ok r)
        go true h = part_turn h σ (Ok r) f
        go false h = part_skip h l

  -- ---- one after the other
  pub pass_start : (σ : Slices) (r : Run) → r.stored ≤ room → Follows room (through (up_from 0 0)) σ r σ (Ok r)
  unfolding up_from keep
  pass_start σ r h =
      follows_same room σ r (λ limit. going) (through []) σ (Ok r) (follows_nothing room σ r h) (λ limit. pass_none W limit room)

  module _ (σ₀ : Slices) (r₀ : Run) (σ : Slices) (r : Run) (i : ℕ) (f : Follows room (through (up_from 0 i)) σ₀ r₀ σ (Ok r)) where
    pub pass_more : (τ : Slices) (q : Result Run Stop) → Follows room (through (i ∷ [])) σ r τ q
        → Follows room (through (up_from 0 (i + 1))) σ₀ r₀ τ q
    unfolding up_from
    pass_more τ q g = through_then σ₀ σ τ r₀ r q (up_from 0 i) (i ∷ []) (up_from 0 (i + 1)) (up_more i 1) f g

    -- the run stops: the other productions change nothing
    pub pass_stopped : (n : ℕ) → i < n → (τ : Slices) (q : Stop) → Follows room (through (i ∷ [])) σ r τ (Err q)
        → Follows room (through (up_from 0 n)) σ₀ r₀ τ (Err q)
    pass_stopped n l τ q g =
        let e : i + 1 + (n - (i + 1)) ≡ n = omega arith in
        through_stopped σ₀ τ r₀ q (up_from 0 (i + 1)) (up_from (i + 1) (n - (i + 1))) (up_from 0 n)
        (up_more (i + 1) (n - (i + 1)) ∙ ap (up_from 0) e) (pass_more τ (Err q) g)
