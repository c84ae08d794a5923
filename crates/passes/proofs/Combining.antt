-- The combinations of a turn one after the other: what is done and what is left are all of them. Assumes nothing.
use mathlib.Core.Path.{◌≡◌, refl, sym, ap, ◌∙◌, subst}
use mathlib.Core.List.{List, [], ◌∷◌, ◌++◌, append_assoc, append-nil}
use Prim.Native.Nat.{ℕ, ◌≤◌, ◌<◌}
use lib.ListN.{get_or}
use Rattle.std.specs.Prelude.{Result, Ok, Err}
use Rattle.steps.specs.declared.Run.{Run}
use Rattle.steps.specs.declared.Stop.{Stop}
use Rattle.steps.specs.declared.Task.{Task}
use Rattle.rules.specs.Passes.{State, Ran, going, and_then, entry, try}
use Rattle.rules.specs.declared.Entry.{Entry}
use Rattle.passes.specs.Slices.{Slices, entry_at}
use Rattle.passes.specs.Follow.{Kept, Follows, system_by, over}
use Rattle.passes.proofs.Entries.{entry_at_lem}
use Rattle.passes.proofs.Following.{follows_nothing, follows_stopped, follows_then, follows_same, tries_append, tries_one, tries_none}

-- the symbols of the entries that were stored before stay
pub symbols_stay : (room : ℕ) (σ : Slices) (r : Run) (τ : Slices) (q : Run) → Kept room σ r τ q → (n : ℕ) → n ≤ r.stored
    → (e : ℕ) → e < n → get_or τ.symbols e 0 ≡ get_or σ.symbols e 0
unfolding entry_at
symbols_stay room σ r τ q h n l e m =
    ap (λ (x : Entry). x.symbol) (sym (entry_at_lem τ n e m))
    ∙ ap (λ (es : List Entry). (entry es e).symbol) (h.stay n l)
    ∙ ap (λ (x : Entry). x.symbol) (entry_at_lem σ n e m)

module _ (k : Task) (rights edges : List ℕ) where
  abbrev rule : List (List ℕ) → ℕ → State → Ran
  rule = over k rights edges

  -- one list of combinations after the other
  rule_then : (a b c : List (List ℕ)) → a ++ b ≡ c → (limit : ℕ) (s : State) → and_then (rule a limit s) (rule b limit) ≡ rule c limit s
  rule_then a b c e limit s =
      tries_append (system_by k rights edges) limit k.room k.number a b s
      ∙ ap (λ (l : List (List ℕ)). rule l limit s) e

  over_then : (σ τ υ : Slices) (r q : Run) (p : Result Run Stop) (a b c : List (List ℕ)) → a ++ b ≡ c
      → Follows k.room (rule a) σ r τ (Ok q) → Follows k.room (rule b) τ q υ p → Follows k.room (rule c) σ r υ p
  over_then σ τ υ r q p a b c e f g =
      follows_same k.room σ r _ (rule c) υ p (follows_then k.room σ r (rule a) (rule b) τ q f υ p g) (rule_then a b c e)

  over_stopped : (σ τ : Slices) (r : Run) (q : Stop) (a b c : List (List ℕ)) → a ++ b ≡ c
      → Follows k.room (rule a) σ r τ (Err q) → Follows k.room (rule c) σ r τ (Err q)
  over_stopped σ τ r q a b c e f =
      follows_same k.room σ r _ (rule c) τ (Err q) (follows_stopped k.room σ r (rule a) (rule b) τ q f) (rule_then a b c e)

  pub over_none : (σ : Slices) (r : Run) (cs : List (List ℕ)) → cs ≡ [] → r.stored ≤ k.room → Follows k.room (rule cs) σ r σ (Ok r)
  over_none σ r cs e h =
      follows_same k.room σ r (λ limit. going) (rule cs) σ (Ok r) (follows_nothing k.room σ r h)
      (λ limit s. tries_none (system_by k rights edges) limit k.room k.number s ∙ ap (λ (l : List (List ℕ)). rule l limit s) (sym e))

  over_one : (σ : Slices) (r : Run) (c : List ℕ) (τ : Slices) (q : Result Run Stop)
      → Follows k.room (λ limit. try (system_by k rights edges) limit k.room k.number c) σ r τ q → Follows k.room (rule (c ∷ [])) σ r τ q
  over_one σ r c τ q f =
      follows_same k.room σ r _ (rule (c ∷ [])) τ q f (λ limit s. tries_one (system_by k rights edges) limit k.room k.number c s)

  module _ (all : List (List ℕ)) (σ₀ : Slices) (r₀ : Run) where
    -- what is done, followed by the rest, is all
    pub record Left (rest : List (List ℕ)) (σ : Slices) (r : Run) : Type 0 where
      pub done : List (List ℕ)
      pub follows : Follows k.room (rule done) σ₀ r₀ σ (Ok r)
      pub whole : done ++ rest ≡ all

    pub left_start : (rest : List (List ℕ)) → all ≡ rest → r₀.stored ≤ k.room → Left rest σ₀ r₀
    left_start rest e h = record { done = []; follows = over_none σ₀ r₀ [] refl h; whole = sym e }

    module _ (σ : Slices) (r : Run) (rest : List (List ℕ)) (h : Left rest σ r) where
      pub left_same : (cs : List (List ℕ)) → rest ≡ cs → Left cs σ r
      left_same cs e = subst (λ (l : List (List ℕ)). Left l σ r) e h

      pub left_end : rest ≡ [] → Follows k.room (rule all) σ₀ r₀ σ (Ok r)
      left_end e =
          subst (λ (l : List (List ℕ)). Follows k.room (rule l) σ₀ r₀ σ (Ok r))
          (sym (append-nil h.done) ∙ ap (λ (l : List (List ℕ)). h.done ++ l) (sym e) ∙ h.whole) h.follows

    -- the first of the rest is tried
    module _ (σ : Slices) (r : Run) (c : List ℕ) (rest : List (List ℕ)) (h : Left (c ∷ rest) σ r) (τ : Slices) where
      pub left_tried : (q : Run) → Follows k.room (λ limit. try (system_by k rights edges) limit k.room k.number c) σ r τ (Ok q) → Left rest τ q
      left_tried q f =
          record {
            done = h.done ++ (c ∷ []);
            follows =
                over_then σ₀ σ τ r₀ r (Ok q) h.done (c ∷ []) (h.done ++ (c ∷ [])) refl h.follows (over_one σ r c τ (Ok q) f);
            whole = append_assoc h.done (c ∷ []) rest ∙ h.whole;
          }

      -- the run stops: the rest changes nothing
      pub left_stopped : (q : Stop) → Follows k.room (λ limit. try (system_by k rights edges) limit k.room k.number c) σ r τ (Err q)
          → Follows k.room (rule all) σ₀ r₀ τ (Err q)
      left_stopped q f =
          over_then σ₀ σ τ r₀ r (Err q) h.done (c ∷ rest) all h.whole h.follows
          (over_stopped σ τ r q (c ∷ []) rest (c ∷ rest) refl (over_one σ r c τ (Err q) f))
