-- The combinations of a turn in parts, and the step from one to the next: the last place that has a further candidate moves on to it, and
-- the places after it begin again at their first candidates. Assumes nothing.
use mathlib.Core.Path.{◌≡◌, refl, sym, ap, ap₂, ◌∙◌}
use mathlib.Core.Bool.{Bool, true, false}
use mathlib.Core.List.{List, [], ◌∷◌, ◌++◌, map, append_assoc, append-nil, map-append}
use Prim.Native.Nat.{ℕ, zero, suc, ◌+◌, ◌-◌, ◌≤◌, ◌<◌}
use native.Mathlib.Numerals.{add-one}
use native.Mathlib.Omega.{arith}
use lib.ListN.{length, get_or, set, take, length-set}
use lib.Seq.{set-get_or, get_or-set_same, get_or-set_other, take-set-le, take-suc-set}
use Rattle.numbers.specs.Lists.{up_from, keep}
use Rattle.numbers.proofs.Keeping.{up_from_split, keep_append}
use Rattle.numbers.proofs.Ranges.{left_some, left_none}
use Rattle.rules.specs.Passes.{prefixed, combinations}
use Rattle.turns.specs.Combos.{under, candidates_from, combos_of, combos_from, part_from, behind, First}

pub under_append : (chosen : List ℕ) (a b : List (List ℕ)) → under chosen (a ++ b) ≡ under chosen a ++ under chosen b
unfolding under
under_append chosen a b = map-append (λ c. chosen ++ c) a b

under_cons : (chosen : List ℕ) (x : ℕ) (cs : List (List ℕ)) → under chosen (map (λ c. x ∷ c) cs) ≡ under (chosen ++ (x ∷ [])) cs
unfolding under
under_cons chosen x [] = refl
under_cons chosen x (c ∷ cs) = rw (append_assoc, under_cons chosen x cs)

pub under_nothing : (cs : List (List ℕ)) → under [] cs ≡ cs
unfolding under
under_nothing [] = refl
under_nothing (c ∷ cs) = ap (λ (l : List (List ℕ)). c ∷ l) (under_nothing cs)

pub prefixed_append : (a b : List ℕ) (rest : List (List ℕ)) → prefixed (a ++ b) rest ≡ prefixed a rest ++ prefixed b rest
unfolding prefixed
prefixed_append [] b rest = refl
prefixed_append (x ∷ a) b rest =
    ap (λ (l : List (List ℕ)). map (λ c. x ∷ c) rest ++ l) (prefixed_append a b rest)
    ∙ sym (append_assoc (map (λ c. x ∷ c) rest) (prefixed a rest) (prefixed b rest))

prefixed_cons : (x : ℕ) (xs : List ℕ) (rest : List (List ℕ)) → prefixed (x ∷ xs) rest ≡ map (λ c. x ∷ c) rest ++ prefixed xs rest
unfolding prefixed
prefixed_cons x xs rest = refl

-- what a test keeps of a number and those after it
keep_hit : (t : ℕ → Bool) (x : ℕ) (xs : List ℕ) → t x ≡ true → keep t (x ∷ xs) ≡ x ∷ keep t xs
unfolding keep
keep_hit t x xs h = rw h

pub keep_over : (t : ℕ → Bool) (i m : ℕ) → ((j : ℕ) → i ≤ j → j < i + m → t j ≡ false) → keep t (up_from i m) ≡ []
unfolding keep up_from
keep_over t i zero h = refl
keep_over t i (suc m) h = rw (h i (omega arith) (omega arith)) (keep_over t (suc i) m (λ j l u. h j (omega arith) (omega arith)))

module _ (test : ℕ → ℕ → Bool) (n places : ℕ) where
  abbrev all : ℕ → List ℕ → List (List ℕ)
  all = combos_from test n places

  abbrev part : ℕ → ℕ → List ℕ → List (List ℕ)
  part = part_from test n places

  abbrev after : ℕ → List ℕ → List (List ℕ)
  after = behind test n places

  -- ---- the combinations in parts

  -- after the last place one is left
  all_last : (i : ℕ) (picked : List ℕ) → i ≡ places → all i picked ≡ take places picked ∷ []
  unfolding combos_from combos_of combinations under
  all_last i picked e =
      let none = left_none i places (omega arith) in
      rw (none, append-nil, e)

  pub all_part : (i : ℕ) (picked : List ℕ) → i < places → all i picked ≡ part i 0 picked
  unfolding combos_from combos_of part_from combinations
  all_part i picked l = rw (left_some i places l, add-one i)

  pub part_hit : (i e : ℕ) (picked : List ℕ) → e < n → test i e ≡ true → i < length picked
      → part i e picked ≡ all (suc i) (set picked i e) ++ part i (suc e) picked
  unfolding part_from combos_from
  part_hit i e picked l h m =
      ap (λ (xs : List ℕ). under (take i picked) (prefixed (keep (test i) xs) (combos_of test n places (suc i)))) (left_some e n l)
      ∙ ap (λ (xs : List ℕ). under (take i picked) (prefixed xs (combos_of test n places (suc i)))) (keep_hit (test i) e (up_from (e + 1) (n - (e + 1))) h)
      ∙ ap (under (take i picked)) (prefixed_cons e (candidates_from test n places i (e + 1)) (combos_of test n places (suc i)))
      ∙ under_append (take i picked) (map (λ c. e ∷ c) (combos_of test n places (suc i))) (prefixed (candidates_from test n places i (e + 1)) (combos_of test n places (suc i)))
      ∙ ap₂ (λ (a b : List (List ℕ)). a ++ b)
      (under_cons (take i picked) e (combos_of test n places (suc i))
      ∙ ap (λ (c : List ℕ). under c (combos_of test n places (suc i))) (sym (take-suc-set picked i e m)))
      (ap (λ (j : ℕ). part i j picked) (add-one e))

  pub part_over : (i e f : ℕ) (picked : List ℕ) → e ≤ f → f ≤ n → ((j : ℕ) → e ≤ j → j < f → test i j ≡ false) → part i e picked ≡ part i f picked
  unfolding part_from
  part_over i e f picked l u h =
      let m : n - e ≡ (f - e) + (n - f) = omega arith in
      let k : e + (f - e) ≡ f = omega arith in
      ap (λ (xs : List ℕ). under (take i picked) (prefixed xs (combos_of test n places (suc i))))
      (ap (λ (j : ℕ). keep (test i) (up_from e j)) m
      ∙ ap (keep (test i)) (up_from_split e (f - e) (n - f))
      ∙ keep_append (test i) (up_from e (f - e)) (up_from (e + (f - e)) (n - f))
      ∙ ap₂ (λ (a b : List ℕ). a ++ b) (keep_over (test i) e (f - e) (λ j a b. h j a (omega (arith, b)))) (ap (λ (j : ℕ). keep (test i) (up_from j (n - f))) k))

  part_end : (i e : ℕ) (picked : List ℕ) → n ≤ e → part i e picked ≡ []
  unfolding part_from keep prefixed under
  part_end i e picked l = rw (left_none e n l)

  -- ---- what comes after the picked numbers

  after_set : (i : ℕ) (picked : List ℕ) (j v : ℕ) → i ≤ j → after i (set picked j v) ≡ after i picked
  unfolding behind part_from
  after_set zero picked j v l = refl
  after_set (suc i) picked j v l =
      rw (take-set-le i picked j v (omega arith), get_or-set_other picked j i v 0 (λ z. omega (arith, z, l)), after_set i picked j v (omega arith))

  pub after_pick : (i : ℕ) (picked : List ℕ) (e : ℕ) → i < length picked
      → after (suc i) (set picked i e) ≡ part i (suc e) picked ++ after i picked
  unfolding behind part_from
  after_pick i picked e l =
      rw (take-set-le i picked i e (omega arith), get_or-set_same picked i e 0 l, after_set i picked i e (omega arith))

  after_more : (i : ℕ) (picked : List ℕ) → after (suc i) picked ≡ part i (suc (get_or picked i 0)) picked ++ after i picked
  unfolding behind
  after_more i picked = refl

  pub after_none : (picked : List ℕ) → after 0 picked ≡ []
  unfolding behind
  after_none picked = refl

  -- where the places from i on stand at their first candidates, the picked numbers are the first combination of what is left
  pub at_firsts : (d i : ℕ) (picked : List ℕ) → i + d ≡ places → places ≤ length picked
      → ((j : ℕ) → i ≤ j → j < places → First test n places j (get_or picked j 0))
      → all i picked ++ after i picked ≡ take places picked ∷ after places picked
  at_firsts zero i picked e long h =
      let z : i ≡ places = omega (arith, e) in
      ap (λ (l : List (List ℕ)). l ++ after i picked) (all_last i picked z) ∙ ap (λ (j : ℕ). take places picked ∷ after j picked) z
  at_firsts (suc d) i picked e long h =
      let low : i < places = omega (arith, e) in
      let f = h i (omega arith) low in
      let x = get_or picked i 0 in
      ap (λ (l : List (List ℕ)). l ++ after i picked)
      (all_part i picked low
      ∙ part_over i 0 x picked (omega arith) (omega (arith, f.low)) (λ j a b. f.none j b)
      ∙ part_hit i x picked f.low f.hit (omega (arith, low, long))
      ∙ ap (λ (p : List ℕ). all (suc i) p ++ part i (suc x) picked) (set-get_or picked i 0))
      ∙ append_assoc (all (suc i) picked) (part i (suc x) picked) (after i picked)
      ∙ ap (λ (l : List (List ℕ)). all (suc i) picked ++ l) (sym (after_more i picked))
      ∙ at_firsts d (suc i) picked (omega (arith, e)) long (λ j a b. h j (omega (arith, a)) b)

  -- ---- the step to the next combination

  -- place i has a further candidate: it moves on, and the places after it, which stand at their first, begin again
  pub moves_on : (i e : ℕ) (picked : List ℕ) → i < places → places ≤ length picked → suc (get_or picked i 0) ≤ e → e < n → test i e ≡ true
      → ((j : ℕ) → suc (get_or picked i 0) ≤ j → j < e → test i j ≡ false)
      → ((j : ℕ) → suc i ≤ j → j < places → First test n places j (get_or picked j 0))
      → after (suc i) picked ≡ take places (set picked i e) ∷ after places (set picked i e)
  moves_on i e picked low long l u hit none h =
      let next = set picked i e in
      let in_picked : i < length picked = omega (arith, low, long) in
      after_more i picked
      ∙ ap (λ (c : List (List ℕ)). c ++ after i picked)
      (part_over i (suc (get_or picked i 0)) e picked l (omega (arith, u)) none ∙ part_hit i e picked u hit in_picked)
      ∙ append_assoc (all (suc i) next) (part i (suc e) picked) (after i picked)
      ∙ ap (λ (c : List (List ℕ)). all (suc i) next ++ c) (sym (after_pick i picked e in_picked))
      ∙ at_firsts (places - suc i) (suc i) next (omega (arith, low)) (rw (length-set picked i e) long)
      (λ j a b. rw (get_or-set_other picked i j e 0 (λ z. omega (arith, z, a))) (h j a b))

  -- place i has none: what is left is what the places before have
  pub goes_back : (i : ℕ) (picked : List ℕ) (v : ℕ) → suc (get_or picked i 0) ≤ n
      → ((j : ℕ) → suc (get_or picked i 0) ≤ j → j < n → test i j ≡ false)
      → after (suc i) picked ≡ after i (set picked i v)
  goes_back i picked v m none =
      after_more i picked
      ∙ ap (λ (c : List (List ℕ)). c ++ after i picked)
      (part_over i (suc (get_or picked i 0)) n picked m (omega arith) none ∙ part_end i n picked (omega arith))
      ∙ sym (after_set i picked i v (omega arith))

  -- a turn begins at the first candidates
  pub begins : (picked : List ℕ) → places ≤ length picked → ((j : ℕ) → j < places → First test n places j (get_or picked j 0))
      → combos_of test n places 0 ≡ take places picked ∷ after places picked
  unfolding combos_from
  begins picked long h =
      sym (append-nil _ ∙ under_nothing (combos_of test n places 0))
      ∙ ap (λ (l : List (List ℕ)). all 0 picked ++ l) (sym (after_none picked))
      ∙ at_firsts places 0 picked (omega arith) long (λ j a b. h j b)
