-- The moves of the code are those of the turn: it begins at the first combination and goes on to the next, until there is none.
-- Assumes nothing.
use mathlib.Core.Path.{◌≡◌, refl, sym, ap, ◌∙◌}
use mathlib.Core.Bool.{Bool, true, false, false≢true}
use mathlib.Core.List.{List, [], ◌∷◌, ◌++◌, map}
use Prim.Native.Nat.{ℕ, zero, suc, ◌+◌, ◌-◌, ◌≤◌, ◌<◌}
use native.Mathlib.Omega.{arith}
use lib.Dec.{eqb}
use lib.ListN.{length, get_or, set, take, replicate, length-take, length-set, length-map, length-replicate}
use lib.Seq.{set-append_left, take-set-lt, get_or-set_same, get_or-set_other}
use borrow.Author.Tests.{eq-eqb, ne_eqb, eqb-true, eqb-false}
use Rattle.std.specs.Prelude.{Option, None, Some}
use Rattle.std.proofs.lemmas.List.{take-replicate, replicate-append-replicate}
use Rattle.numbers.specs.Lists.{up_from}
use Rattle.numbers.proofs.Ranges.{length_up_from, at_below}
use Rattle.rules.specs.Passes.{seven, prefixed, combinations}
use Rattle.rules.proofs.Stored.{length_seven}
use Rattle.candidates.specs.Next.{next_of}
use Rattle.candidates.proofs.Seeking.{next_of_lem}
use Rattle.turns.specs.Combos.{candidates_from, combos_of, behind, First}
use Rattle.turns.specs.Moves.{Moved, moved, firsts_to, moved_to}
use Rattle.turns.specs.Turning.{of_symbol, Numbers, Firsts, MovesAt, Begins, GoesOn}
use Rattle.turns.proofs.Odometer.{after_none, moves_on, goes_back, keep_over}

-- ---- the numbers

pub numbers_long : (places first : ℕ) (xs : List ℕ) → places ≤ 7 → Numbers places first xs → length xs ≡ 7
numbers_long places first xs l h = ap length h.slots ∙ length_seven (take places xs) (omega (arith, length-take places xs))

slots_set : (places : ℕ) (xs : List ℕ) (i e : ℕ) → i < places → places ≤ length xs → xs ≡ seven (take places xs)
    → set xs i e ≡ seven (take places (set xs i e))
unfolding seven
slots_set places xs i e l m h =
    let a = take places xs in
    let long : length a ≡ places = omega (arith, length-take places xs) in
    ap (λ (x : List ℕ). set x i e) h
    ∙ set-append_left a (replicate (7 - length a) 0) i e (omega (arith, long))
    ∙ ap (λ (j : ℕ). set a i e ++ replicate (7 - j) 0) (sym (length-set a i e))
    ∙ ap seven (sym (take-set-lt places xs i e l))

zeros : (n : ℕ) → n ≤ 7 → replicate 7 0 ≡ seven (take n (replicate 7 0))
unfolding seven
zeros n l =
    let e : n + (7 - n) ≡ 7 = omega arith in
    sym (ap seven (take-replicate n 7 0 l)
    ∙ ap (λ (j : ℕ). replicate n 0 ++ replicate (7 - j) 0) (length-replicate n 0)
    ∙ replicate-append-replicate n (7 - n) 0
    ∙ ap (λ (j : ℕ). replicate j 0) e)

-- what stands at j where e is set at i
pub set_at : (P : ℕ → Type 0) (xs : List ℕ) (i j e : ℕ) → i < length xs → (j ≡ i → P e) → ((j ≡ i → ⊥) → P (get_or xs j 0))
    → P (get_or (set xs i e) j 0)
set_at P xs i j e l here other = go (eqb j i) refl
  where
    go : (b : Bool) → eqb j i ≡ b → P (get_or (set xs i e) j 0)
    go true q =
        let z = eqb-true j i q in
        rw (z, get_or-set_same xs i e 0 l) (here z)
    go false q = rw (get_or-set_other xs i j e 0 (eqb-false j i q)) (other (eqb-false j i q))

pub numbers_set : (places first : ℕ) (xs : List ℕ) (i e : ℕ) → places ≤ 7 → i < places → e < first → Numbers places first xs
    → Numbers places first (set xs i e)
numbers_set places first xs i e few l x h =
    let long = numbers_long places first xs few h in
    record {
      slots = slots_set places xs i e l (omega (arith, few, long)) h.slots;
      below = λ j m. set_at (λ v. v < first) xs i j e (omega (arith, l, few, long)) (λ z. x) (λ z. h.below j m);
    }

module _ (symbols₀ symbols rights : List ℕ) (first places : ℕ) (few : places ≤ 7) (held : first ≤ length symbols)
    (stay : (e : ℕ) → e < first → get_or symbols e 0 ≡ get_or symbols₀ e 0) where
  abbrev test : ℕ → ℕ → Bool
  test = of_symbol symbols₀ rights

  abbrev after : ℕ → List ℕ → List (List ℕ)
  after = behind test first places

  -- the next candidate, by the test
  pub record Candidate (i from e : ℕ) : Type 0 where
    pub after_it : from ≤ e
    pub within : e < first
    pub none : (j : ℕ) → from ≤ j → j < e → test i j ≡ false
    pub hit : test i e ≡ true

  abbrev pub NoCandidate : ℕ → ℕ → Type 0
  NoCandidate i from = (j : ℕ) → from ≤ j → j < first → test i j ≡ false

  pub candidate : (i from e : ℕ) → next_of symbols (get_or rights i 0) from first ≡ Some e → Candidate i from e
  candidate i from e q =
      let w = (next_of_lem symbols (get_or rights i 0) from first held).some e q in
      record {
        after_it = w.after;
        within = w.within;
        none = λ j a b. ne_eqb _ _ (λ h. w.none j a b (stay j (omega (arith, b, w.within)) ∙ h));
        hit = eq-eqb _ _ (sym (stay _ w.within) ∙ w.found);
      }

  pub none_further : (i from : ℕ) → next_of symbols (get_or rights i 0) from first ≡ None → NoCandidate i from
  none_further i from q j a b =
      ne_eqb _ _ (λ h. (next_of_lem symbols (get_or rights i 0) from first held).none q j a b (stay j b ∙ h))

  -- ---- the next combination
  module _ (firsts : List ℕ) (begun : Numbers places first firsts) (all : Firsts test first places firsts) where
    -- from the places below k on, where those above stand at their first candidates
    record Goes (k : ℕ) (xs : List ℕ) (m : Moved) : Type 0 where
      numbers : Numbers places first m.numbers
      next : m.more ≡ true → after k xs ≡ take places m.numbers ∷ after places m.numbers
      none : m.more ≡ false → after k xs ≡ []
      moved_at : m.more ≡ true → MovesAt test first places xs k m.numbers

    -- place i moves on, or begins again
    module _ (i : ℕ) (xs : List ℕ) (low : i < places) (h : Numbers places first xs)
        (f : (j : ℕ) → suc i ≤ j → j < places → First test first places j (get_or xs j 0)) where
      abbrev again : List ℕ
      again = set xs i (get_or firsts i 0)

      long : length xs ≡ 7
      long = numbers_long places first xs few h

      again_numbers : Numbers places first again
      again_numbers = numbers_set places first xs i (get_or firsts i 0) few low (begun.below i low) h

      again_firsts : (j : ℕ) → i ≤ j → j < places → First test first places j (get_or again j 0)
      again_firsts j a b =
          set_at (First test first places j) xs i j (get_or firsts i 0) (omega (arith, low, few, long))
          (λ z. let k : i ≡ j = omega (arith, z) in
          rw k (all j b))
          (λ z. f j (omega (arith, z, a)) b)

      on : (e : ℕ) → Candidate i (suc (get_or xs i 0)) e → Goes (suc i) xs (moved true (set xs i e))
      on e w =
          record {
            numbers = numbers_set places first xs i e few low w.within h;
            next = λ y. moves_on test first places i e xs low (omega (arith, few, long)) w.after_it w.within w.hit w.none f;
            none = λ y. absurd (false≢true (sym y));
            moved_at =
                λ y. record {
                  place = i;
                  low = low;
                  within = omega arith;
                  before = λ j m. get_or-set_other xs i j e 0 (λ z. omega (arith, z, m));
                  further = rw (get_or-set_same xs i e 0 (omega (arith, low, few, long))) w.after_it;
                  hit = rw (get_or-set_same xs i e 0 (omega (arith, low, few, long))) w.hit;
                  again =
                      λ j a b. rw (get_or-set_other xs i j e 0 (λ z. omega (arith, z, a))) (f j a b);
                };
          }

      back : NoCandidate i (suc (get_or xs i 0)) → (m : Moved) → Goes i again m → Goes (suc i) xs m
      back none m g =
          let b = goes_back test first places i xs (get_or firsts i 0) (h.below i low) none in
          record {
            numbers = g.numbers;
            next = λ y. b ∙ g.next y;
            none = λ y. b ∙ g.none y;
            moved_at =
                λ y. let v = g.moved_at y in
                record {
                  place = v.place;
                  low = v.low;
                  within = omega (arith, v.within);
                  before = λ j l. v.before j l ∙ get_or-set_other xs i j (get_or firsts i 0) 0 (λ z. omega (arith, z, l, v.within));
                  further = rw (← get_or-set_other xs i v.place (get_or firsts i 0) 0 (λ z. omega (arith, z, v.within))) v.further;
                  hit = v.hit;
                  again = v.again;
                };
          }

      step : Goes i again (moved_to symbols rights firsts first i again) → Goes (suc i) xs (moved_to symbols rights firsts first (suc i) xs)
      unfolding moved_to
      step g = go (next_of symbols (get_or rights i 0) (suc (get_or xs i 0)) first) refl
        where
          go : (r : Option ℕ) → next_of symbols (get_or rights i 0) (suc (get_or xs i 0)) first ≡ r
              → Goes (suc i) xs (moved_to symbols rights firsts first (suc i) xs)
          go (Some e) q = rw q (on e (candidate i (suc (get_or xs i 0)) e q))
          go None q = rw q (back (none_further i (suc (get_or xs i 0)) q) _ g)

    goes : (k : ℕ) (xs : List ℕ) → k ≤ places → Numbers places first xs
        → ((j : ℕ) → k ≤ j → j < places → First test first places j (get_or xs j 0)) → Goes k xs (moved_to symbols rights firsts first k xs)
    unfolding moved_to
    goes zero xs l h f =
        record {
          numbers = h;
          next = λ q. absurd (false≢true q);
          none = λ q. after_none test first places xs;
          moved_at = λ q. absurd (false≢true q);
        }
    goes (suc i) xs l h f = step i xs l h f (goes i (again i xs l h f) (omega (arith, l)) (again_numbers i xs l h f) (again_firsts i xs l h f))

    pub goes_on : (picked : List ℕ) → Numbers places first picked
        → GoesOn test first places picked (moved_to symbols rights firsts first places picked)
    goes_on picked h =
        let w = goes places picked (omega arith) h (λ j a b. absurd (omega (arith, a, b))) in
        record { numbers = w.numbers; next = w.next; none = w.none; moved_at = w.moved_at }

  -- ---- the first combination

  prefixed_none : (xs : List ℕ) → prefixed xs [] ≡ []
  unfolding prefixed
  prefixed_none [] = refl
  prefixed_none (x ∷ xs) = prefixed_none xs

  combinations_none : (xss : List (List ℕ)) (j : ℕ) → j < length xss → get_or xss j [] ≡ [] → combinations xss ≡ []
  unfolding combinations prefixed
  combinations_none [] j l h = absurd (omega arith)
  combinations_none (xs ∷ xss) zero l h = rw h
  combinations_none (xs ∷ xss) (suc j) l h = rw (combinations_none xss j (omega arith) h, prefixed_none xs)

  no_candidate : (i : ℕ) → i < places → NoCandidate i 0 → combos_of test first places 0 ≡ []
  unfolding combos_of
  no_candidate i l h =
      combinations_none (map (λ j. candidates_from test first places j 0) (up_from 0 (places - 0))) i
      (omega (arith, l, length-map (up_from 0 (places - 0)) (λ j. candidates_from test first places j 0), length_up_from 0 (places - 0)))
      (at_below (λ j. candidates_from test first places j 0) [] (places - 0) i (omega (arith, l))
      ∙ keep_over (test i) 0 (first - 0) (λ j a b. h j a (omega (arith, b))))

  -- place i has a first candidate, or none
  module _ (i : ℕ) (xs : List ℕ) (low : i < places) (slots : xs ≡ seven (take places xs))
      (f : (j : ℕ) → suc i ≤ j → j < places → First test first places j (get_or xs j 0)) where
    abbrev with_least : ℕ → List ℕ
    with_least e = set xs i e

    seven_slots : length xs ≡ 7
    seven_slots = ap length slots ∙ length_seven (take places xs) (omega (arith, length-take places xs, few))

    least_slots : (e : ℕ) → with_least e ≡ seven (take places (with_least e))
    least_slots e = slots_set places xs i e low (omega (arith, seven_slots, few)) slots

    least_firsts : (e : ℕ) → Candidate i 0 e → (j : ℕ) → i ≤ j → j < places → First test first places j (get_or (with_least e) j 0)
    least_firsts e w j a b =
        set_at (First test first places j) xs i j e (omega (arith, low, few, seven_slots))
        (λ z. let k : i ≡ j = omega (arith, z) in
        rw (← k) (record { low = w.within; hit = w.hit; none = λ m y. w.none m (omega arith) y }))
        (λ z. f j (omega (arith, z, a)) b)

    begin_step : ((e : ℕ) → Candidate i 0 e → Begins test first places (firsts_to symbols rights first i (with_least e)))
        → Begins test first places (firsts_to symbols rights first (suc i) xs)
    unfolding firsts_to
    begin_step g = go (next_of symbols (get_or rights i 0) 0 first) refl
      where
        go : (r : Option ℕ) → next_of symbols (get_or rights i 0) 0 first ≡ r → Begins test first places (firsts_to symbols rights first (suc i) xs)
        go (Some e) q = rw q (g e (candidate i 0 e q))
        go None q =
            rw q
            (record {
              numbers = λ y. absurd (false≢true y);
              firsts = λ y. absurd (false≢true y);
              none = λ y. no_candidate i low (none_further i 0 q);
            })

  begin : (k : ℕ) (xs : List ℕ) → k ≤ places → xs ≡ seven (take places xs)
      → ((j : ℕ) → k ≤ j → j < places → First test first places j (get_or xs j 0)) → Begins test first places (firsts_to symbols rights first k xs)
  unfolding firsts_to
  begin zero xs l h f =
      record {
        numbers = λ q. record { slots = h; below = λ i m. (f i (omega arith) m).low };
        firsts = λ q j m. f j (omega arith) m;
        none = λ q. absurd (false≢true (sym q));
      }
  begin (suc i) xs l h f =
      begin_step i xs l h f (λ e w. begin i (with_least i xs l h f e) (omega (arith, l)) (least_slots i xs l h f e) (least_firsts i xs l h f e w))

  pub begins : Begins test first places (firsts_to symbols rights first places (replicate 7 0))
  begins = begin places (replicate 7 0) (omega arith) (zeros places few) (λ j a b. absurd (omega (arith, a, b)))
