-- Two systems that agree on a production give it the same turn. Assumes nothing.
use mathlib.Core.Path.{◌≡◌, refl, sym, ap, ◌∙◌}
use mathlib.Core.Bool.{Bool}
use mathlib.Core.List.{List, [], ◌∷◌, map}
use Prim.Native.Nat.{ℕ, zero, suc, ◌+◌, ◌-◌, ◌≤◌, ◌<◌}
use native.Mathlib.Nat.{sub-zero}
use native.Mathlib.Omega.{arith}
use lib.Dec.{eqb}
use lib.ListN.{length, get_or, take, length-map}
use lib.Seq.{length-take-le, get_or-take}
use Rattle.numbers.specs.Lists.{up_from, keep}
use Rattle.numbers.proofs.Keeping.{map_same, map_moved}
use Rattle.rules.specs.declared.Entry.{Entry}
use Rattle.std.specs.Prelude.{Result}
use Rattle.steps.specs.declared.Run.{Run}
use Rattle.steps.specs.declared.Stop.{Stop}
use Rattle.steps.specs.declared.Task.{Task}
use Rattle.rules.specs.Passes.{System, State, Ran, and_then, entry, graphs, candidates, combinations, try, tries, turn}
use Rattle.rules.proofs.Stored.{Each, each_combination}
use Rattle.turns.specs.Combos.{candidates_from, combos_of}
use Rattle.turns.specs.Turning.{of_symbol}
use Rattle.passes.specs.Slices.{Slices, entry_at, entries_to}
use Rattle.passes.specs.Follow.{state_of, Follows, system_by, over, combos_in}
use Rattle.passes.proofs.Entries.{length_entries, entry_at_lem}
use Rattle.passes.proofs.Following.{then_same, follows_here}

-- ---- the same tries

module _ (W U : System) (limit room p n : ℕ) (left : U.left p ≡ W.left p)
    (graph : (gs : List ℕ) → length gs ≡ n → U.graph p gs ≡ W.graph p gs)
    (circle : (gs : List ℕ) → length gs ≡ n → U.circle p gs ≡ W.circle p gs) where
  try_same : (combo : List ℕ) → length combo ≡ n → (s : State) → try U limit room p combo s ≡ try W limit room p combo s
  unfolding try
  try_same combo h s =
      let l : length (graphs s.entries combo) ≡ n = length-map combo (λ i. (entry s.entries i).graph) ∙ h in
      rw (left, graph (graphs s.entries combo) l, circle (graphs s.entries combo) l)

  tries_same : (cs : List (List ℕ)) → Each n cs → (s : State) → tries U limit room p cs s ≡ tries W limit room p cs s
  unfolding tries
  tries_same [] h s = refl
  tries_same (c ∷ cs) h s =
      ap (λ (x : Ran). and_then x (tries U limit room p cs)) (try_same c h.0 s)
      ∙ then_same (try W limit room p c s) (tries U limit room p cs) (tries W limit room p cs) (tries_same cs h.1)

-- ---- the turn of a task

-- a task says of its production what the system W says
pub record Agrees (W : System) (k : Task) (rights edges : List ℕ) : Type 0 where
  pub left : (system_by k rights edges).left k.number ≡ W.left k.number
  pub rights_are : take k.count rights ≡ W.rights k.number
  pub long : length (W.rights k.number) ≡ k.count
  pub graph : (gs : List ℕ) → length gs ≡ k.count → (system_by k rights edges).graph k.number gs ≡ W.graph k.number gs
  pub circle : (gs : List ℕ) → length gs ≡ k.count → (system_by k rights edges).circle k.number gs ≡ W.circle k.number gs

keep_same : (t u : ℕ → Bool) (i n : ℕ) → ((j : ℕ) → i ≤ j → j < i + n → t j ≡ u j) → keep t (up_from i n) ≡ keep u (up_from i n)
unfolding keep up_from
keep_same t u i zero h = refl
keep_same t u i (suc n) h = rw (h i (omega arith) (omega arith), keep_same t u (suc i) n (λ j a b. h j (omega arith) (omega arith)))

-- the candidates of a place among the first entries
candidates_are : (σ : Slices) (first : ℕ) (rights : List ℕ) (count i : ℕ)
    → candidates (entries_to σ first) (get_or rights i 0) ≡ candidates_from (of_symbol σ.symbols rights) first count i 0
unfolding candidates entry_at
candidates_are σ first rights count i =
    ap (λ (n : ℕ). keep (λ j. eqb (entry (entries_to σ first) j).symbol (get_or rights i 0)) (up_from 0 n)) (length_entries σ first)
    ∙ keep_same (λ j. eqb (entry (entries_to σ first) j).symbol (get_or rights i 0)) (of_symbol σ.symbols rights i) 0 first
    (λ j a b. ap (λ (e : Entry). eqb e.symbol (get_or rights i 0)) (entry_at_lem σ first j (omega (arith, b))))
    ∙ ap (λ (n : ℕ). keep (of_symbol σ.symbols rights i) (up_from 0 n)) (sym (sub-zero first))

-- a list by its places
by_places : {A : Type 0} (f : ℕ → A) (xs : List ℕ) → map f xs ≡ map (λ i. f (get_or xs i 0)) (up_from 0 (length xs))
unfolding up_from
by_places f [] = refl
by_places f (x ∷ xs) =
    ap (λ l. f x ∷ l)
    (by_places f xs
    ∙ map_same (λ i. f (get_or xs i 0)) (λ i. f (get_or (x ∷ xs) (1 + i) 0)) 0 (length xs)
    (λ i a b. let e : suc i ≡ 1 + i = omega arith in
    ap (λ (j : ℕ). f (get_or (x ∷ xs) j 0)) e)
    ∙ map_moved (λ i. f (get_or (x ∷ xs) i 0)) 1 (length xs))

module _ (W : System) (k : Task) (rights edges : List ℕ) (agrees : Agrees W k rights edges) (slots : k.count ≤ length rights) where
  abbrev all : List Entry → List (List ℕ)
  all es = combinations (map (candidates es) (W.rights k.number))

  combos_all : (σ : Slices) (first : ℕ) → combos_in k rights first σ.symbols ≡ all (entries_to σ first)
  unfolding combos_of
  combos_all σ first =
      let es = entries_to σ first in
      let long : length (take k.count rights) ≡ k.count = length-take-le k.count rights slots in
      ap combinations
      (map_same (λ j. candidates_from (of_symbol σ.symbols rights) first k.count j 0)
      (λ j. candidates es (get_or (take k.count rights) j 0)) 0 (k.count - 0)
      (λ j a b. sym (candidates_are σ first rights k.count j) ∙ ap (candidates es) (sym (get_or-take k.count rights j 0 (omega (arith, b)))))
      ∙ ap (λ (n : ℕ). map (λ j. candidates es (get_or (take k.count rights) j 0)) (up_from 0 n)) (sub-zero k.count ∙ sym long)
      ∙ sym (by_places (candidates es) (take k.count rights))
      ∙ ap (map (candidates es)) agrees.rights_are)

  each_all : (es : List Entry) → Each k.count (all es)
  each_all es =
      rw (← agrees.long, ← length-map (W.rights k.number) (candidates es))
      (each_combination (map (candidates es) (W.rights k.number)))

  -- all combinations of the entries that were stored when the turn began
  pub turn_follows : (σ : Slices) (r : Run) (τ : Slices) (q : Result Run Stop)
      → Follows k.room (over k rights edges (combos_in k rights r.stored σ.symbols)) σ r τ q
      → Follows k.room (λ limit. turn W limit k.room k.number) σ r τ q
  unfolding turn
  turn_follows σ r τ q f =
      let es = entries_to σ r.stored in
      follows_here k.room σ r (over k rights edges (combos_in k rights r.stored σ.symbols)) (λ limit. turn W limit k.room k.number) τ q f
      (λ limit. ap (λ (cs : List (List ℕ)). over k rights edges cs limit (state_of limit σ r)) (combos_all σ r.stored)
      ∙ tries_same W (system_by k rights edges) limit k.room k.number k.count agrees.left agrees.graph agrees.circle
      (all es) (each_all es) (state_of limit σ r))
