-- What is so of every outcome of the test: the report counts the entries, the room holds them, and each has seven slots. Assumes nothing.
use mathlib.Core.Path.{◌≡◌, refl, ap}
use mathlib.Core.Bool.{Bool, true, false, cond}
use mathlib.Core.List.{List, [], ◌∷◌, ◌++◌, map}
use Prim.Native.Nat.{ℕ, zero, suc, ◌≤◌, ◌<◌, zero-le}
use native.Mathlib.Omega.{arith}
use lib.Dec.{eqb}
use lib.ListN.{length, length-append, length-map, length-replicate, length-take}
use borrow.Author.Tests.{leb-false}
use Rattle.std.specs.Prelude.{Ok, Err}
use Rattle.grammar.specs.Table.{width_of, grammar_of}
use Rattle.grammar.specs.Refusal.{Checked, refusal}
use Rattle.grammar.proofs.Lookups.{slots_seven}
use Rattle.parts.specs.Rule.{taking}
use Rattle.rules.specs.declared.Answer.TheVariants.{Noncircular}
use Rattle.rules.specs.declared.Entry.{Entry}
use Rattle.rules.specs.Passes.{System, State, Ran, going, stopped, and_then, seven, no_root, candidates, prefixed, combinations, stop_if, go_on_if, try, tries, turn, pass, Outcome, outcome, after, empty, passes_from, passes}
use Rattle.rules.specs.Test.{system_of, system_in, saying, after_check, test}
use Rattle.rules.proofs.Steps.{by_tests}

-- ---- every combination has a number for each right symbol

abbrev pub Each : ℕ → List (List ℕ) → Type 0
Each n [] = Unit {0}
Each n (c ∷ cs) = (length c ≡ n) × Each n cs

each_append : (n : ℕ) (a b : List (List ℕ)) → Each n a → Each n b → Each n (a ++ b)
each_append n [] b h k = k
each_append n (c ∷ a) b h k = (h.0, each_append n a b h.1 k)

each_under : (n x : ℕ) (cs : List (List ℕ)) → Each n cs → Each (suc n) (map (λ c. x ∷ c) cs)
each_under n x [] h = tt
each_under n x (c ∷ cs) h = (ap suc h.0, each_under n x cs h.1)

each_prefixed : (n : ℕ) (xs : List ℕ) (cs : List (List ℕ)) → Each n cs → Each (suc n) (prefixed xs cs)
unfolding prefixed
each_prefixed n [] cs h = tt
each_prefixed n (x ∷ xs) cs h =
    each_append (suc n) (map (λ c. x ∷ c) cs) (prefixed xs cs) (each_under n x cs h) (each_prefixed n xs cs h)

pub each_combination : (xss : List (List ℕ)) → Each (length xss) (combinations xss)
unfolding combinations
each_combination [] = (refl, tt)
each_combination (xs ∷ xss) = each_prefixed (length xss) xs (combinations xss) (each_combination xss)

-- ---- seven slots

pub length_seven : (xs : List ℕ) → length xs ≤ 7 → length (seven xs) ≡ 7
unfolding seven
length_seven xs h = rw (length-append, length-replicate) (omega arith)

abbrev pub Sevens : List Entry → Type 0
Sevens [] = Unit {0}
Sevens (e ∷ es) = (length e.kids ≡ 7) × Sevens es

sevens_snoc : (es : List Entry) (e : Entry) → Sevens es → length e.kids ≡ 7 → Sevens (es ++ (e ∷ []))
sevens_snoc [] e h k = (k, tt)
sevens_snoc (x ∷ es) e h k = (h.0, sevens_snoc es e h.1 k)

-- ---- the passes

pub record Sound (room : ℕ) (es : List Entry) : Type 0 where
  pub fits : length es ≤ room
  pub slots : Sevens es

abbrev reached : Ran → List Entry
reached (going s) = s.entries
reached (stopped a root s) = s.entries

sound_then : (room : ℕ) (r : Ran) (f : State → Ran) → Sound room (reached r)
    → ((s : State) → Sound room s.entries → Sound room (reached (f s))) → Sound room (reached (and_then r f))
sound_then room (going s) f h k = k s h
sound_then room (stopped a root s) f h k = h

sound_more : (room : ℕ) (es : List Entry) (e : Entry) → Sound room es → length es < room → length e.kids ≡ 7
    → Sound room (es ++ (e ∷ []))
sound_more room es e h l k =
    record { fits = omega (arith, length-append es (e ∷ [])); slots = sevens_snoc es e h.slots k }

sound_steps : (room : ℕ) (b c k f : Bool) (p : ℕ) (root : List ℕ) (s u : State) → Sound room s.entries
    → (f ≡ false → Sound room u.entries) → Sound room (reached (by_tests b c k f p root s u))
unfolding stop_if go_on_if
sound_steps room true c k f p root s u h n = h
sound_steps room false true k f p root s u h n = h
sound_steps room false false true f p root s u h n = h
sound_steps room false false false true p root s u h n = h
sound_steps room false false false false p root s u h n = n refl

-- the report counts the entries, and they are sound
pub record Counted (room : ℕ) (o : Outcome) : Type 0 where
  pub count : o.report.entries ≡ length o.entries
  pub sound : Sound room o.entries

module _ (W : System) (limit room : ℕ) (few : (p : ℕ) → length (W.rights p) ≤ 7) where
  sound_try : (p : ℕ) (combo : List ℕ) (s : State) → length combo ≤ 7 → Sound room s.entries
      → Sound room (reached (try W limit room p combo s))
  unfolding try
  sound_try p combo s l h =
      sound_steps room _ _ _ _ p (seven combo) s _ h
      (λ n. sound_more room s.entries _ h (leb-false room (length s.entries) n) (length_seven combo l))

  sound_tries : (p n : ℕ) (combos : List (List ℕ)) (s : State) → n ≤ 7 → Each n combos → Sound room s.entries
      → Sound room (reached (tries W limit room p combos s))
  unfolding tries
  sound_tries p n [] s l e h = h
  sound_tries p n (c ∷ cs) s l e h =
      sound_then room (try W limit room p c s) (tries W limit room p cs) (sound_try p c s (omega (arith, e.0)) h)
      (λ t k. sound_tries p n cs t l e.1 k)

  sound_turn : (p : ℕ) (s : State) → Sound room s.entries → Sound room (reached (turn W limit room p s))
  unfolding turn
  sound_turn p s h =
      let xss : List (List ℕ) = map (candidates s.entries) (W.rights p) in
      sound_tries p (length xss) (combinations xss) s
      (omega (arith, few p, length-map (W.rights p) (candidates s.entries))) (each_combination xss) h

  sound_pass : (ps : List ℕ) (s : State) → Sound room s.entries → Sound room (reached (pass W limit room ps s))
  unfolding pass
  sound_pass [] s h = h
  sound_pass (p ∷ ps) s h = sound_then room (turn W limit room p s) (pass W limit room ps) (sound_turn p s h) (sound_pass ps)

  counted_after : (old : State) (begun : ℕ) (r : Ran) (f : State → Outcome) → Sound room (reached r)
      → ((s : State) → Sound room s.entries → Counted room (f s)) → Counted room (after old begun r f)
  counted_after old begun (stopped a root s) f h k = record { count = refl; sound = h }
  counted_after old begun (going s) f h k = go (eqb (length s.entries) (length old.entries))
    where
      go : (b : Bool) → Counted room (cond b (outcome Noncircular no_root s begun) (f s))
      go true = record { count = refl; sound = h }
      go false = k s h

  counted_passes : (fuel : ℕ) (ps : List ℕ) (begun : ℕ) (s : State) → Sound room s.entries
      → Counted room (passes_from W limit room fuel ps begun s)
  unfolding passes_from
  counted_passes zero ps begun s h = record { count = refl; sound = h }
  counted_passes (suc fuel) ps begun s h =
      counted_after s (suc begun) (pass W limit room ps s) (passes_from W limit room fuel ps (suc begun)) (sound_pass ps s h)
      (λ t k. counted_passes fuel ps (suc begun) t k)

-- ---- the test of a table

module _ (bs : List ℕ) where
  few_rights : (p : ℕ) → length ((system_in bs).rights p) ≤ 7
  unfolding system_of
  few_rights p = let s = slots_seven bs p in rw length-take (omega arith)

  nothing : (room : ℕ) → Sound room []
  nothing room = record { fits = zero-le; slots = tt }

  -- the passes over any productions
  pub counted_passes_in : (limit room : ℕ) (ps : List ℕ) → Counted room (passes (system_in bs) limit room ps)
  unfolding passes
  counted_passes_in limit room ps = counted_passes (system_in bs) limit room few_rights (suc room) ps 0 empty (nothing room)

  pub counted_test : (limit room : ℕ) → Counted room (test bs limit room)
  unfolding test after_check
  counted_test limit room = go (refusal bs)
    where
      go : (c : Checked)
          → Counted room (after_check c (saying (width_of bs) (grammar_of bs) (passes (system_in bs) limit room (taking (grammar_of bs)))))
      go (Ok u) =
          let c = counted_passes_in limit room (taking (grammar_of bs)) in
          record { count = c.count; sound = c.sound }
      go (Err b) = record { count = refl; sound = nothing room }
