-- The turn without the combinations whose entries are all old: it begins at the first of the others, and goes on from one to the next.
-- Assumes nothing.
use mathlib.Core.Path.{◌≡◌, refl, sym, ap, ◌∙◌}
use mathlib.Core.Bool.{Bool, true, false, false≢true}
use mathlib.Core.List.{List, [], ◌∷◌}
use mathlib.Core.Logic.{◌⊎◌, inl, inr, ⊎_elim}
use Prim.Native.Nat.{ℕ, zero, suc, ◌≤◌, ◌<◌}
use native.Mathlib.Decide.{dec_lt}
use native.Mathlib.Nat.{eq-or-lt_of_le}
use native.Mathlib.Omega.{arith}
use lib.Dec.{ltb}
use lib.ListN.{length, get_or, set, take, length-set, length-take}
use lib.Seq.{get_or-take, get_or-set_same}
use borrow.Author.Tests.{ltb-true, le-ltb}
use Rattle.std.specs.Prelude.{Option, None, Some, MatchOption}
use Rattle.std.specs.List.{All}
use Rattle.std.proofs.lemmas.List.Elements.{All-from_get_or}
use Rattle.std.proofs.lemmas.List.Folds.{list_all_at}
use Rattle.std.proofs.lemmas.List.Sums.{AllPass-from_list_all}
use Rattle.numbers.specs.Lists.{keep}
use Rattle.candidates.specs.Next.{next_of}
use Rattle.turns.specs.declared.Newest.{Newest}
use Rattle.turns.specs.Combos.{combos_of, behind, First}
use Rattle.turns.specs.Moves.{Moved}
use Rattle.turns.specs.Skips.{all_below, with_new, newest_to, skipped}
use Rattle.turns.specs.Turning.{of_symbol, Numbers, Firsts, GoesOn}
use Rattle.turns.proofs.Odometer.{begins}
use Rattle.turns.proofs.Turning.{numbers_long, numbers_set, set_at, Candidate, NoCandidate, candidate, none_further}
use Rattle.turns.proofs.Skipping.{all_below_lem, one_new, skips, NoneNew}

apart : (a b : ℕ) → (a < b) ⊎ (b ≤ a)
apart a b = go (dec_lt a b)
  where
    go : Dec (a < b) → (a < b) ⊎ (b ≤ a)
    go (yes l) = inl l
    go (no n) = inr (omega arith)

-- ---- all below, number by number

module _ (old : ℕ) (c : List ℕ) where
  -- one that is not
  not_all : (k : ℕ) → k < length c → old ≤ get_or c k 0 → all_below old c ≡ false
  not_all k l h = list_all_at (λ x. ltb x old) c k 0 l (le-ltb (get_or c k 0) old h)

  -- each is
  each_below : (k : ℕ) → all_below old c ≡ true → k < length c → get_or c k 0 < old
  each_below k h l = ltb-true _ _ (AllPass-from_list_all (λ x. ltb x old) c h k 0 l)

  all_of : ((k : ℕ) → k < length c → get_or c k 0 < old) → all_below old c ≡ true
  all_of h = all_below_lem old c (All-from_get_or (λ x. x < old) c 0 h)

  all_taken : (i : ℕ) → ((j : ℕ) → j < i → j < length c → get_or c j 0 < old) → All (λ x. x < old) (take i c)
  all_taken i h =
      All-from_get_or (λ x. x < old) (take i c) 0 (λ j l.
      let k : j < i = omega (arith, l, length-take i c) in
      rw (get_or-take i c j 0 k) (h j k (omega (arith, l, length-take i c))))

module _ (symbols₀ symbols rights : List ℕ) (first places old : ℕ) (few : places ≤ 7) (held : first ≤ length symbols)
    (stay : (e : ℕ) → e < first → get_or symbols e 0 ≡ get_or symbols₀ e 0) (known : old ≤ first) where
  abbrev test : ℕ → ℕ → Bool
  test = of_symbol symbols₀ rights

  abbrev after : List ℕ → List (List ℕ)
  after = behind test first places places

  -- ---- the last place with a new candidate

  pub record Last (i fresh : ℕ) : Type 0 where
    pub low : i < places
    pub below : fresh < first
    pub hit : test i fresh ≡ true
    pub new : old ≤ fresh
    pub olds : (j : ℕ) → j < fresh → test i j ≡ true → j < old
    pub later : NoneNew old test first places (suc i)

  abbrev pub NewestIs : Option Newest → Type 0
  NewestIs r = MatchOption r (NoneNew old test first places 0) (λ m. Last m.place m.entry)

  old_before : (i e j : ℕ) → ((k : ℕ) → old ≤ k → k < e → test i k ≡ false) → j < e → test i j ≡ true → j < old
  old_before i e j h l hit = go (dec_lt j old)
    where
      go : Dec (j < old) → j < old
      go (yes m) = m
      go (no n) = absurd (false≢true (sym (h j (omega arith) l) ∙ hit))

  module _ (i : ℕ) (low : i < places) (h : NoneNew old test first places (suc i)) where
    found : (e : ℕ) → Candidate symbols₀ symbols rights first places few held stay i old e → Last i e
    found e w =
        record {
          low = low;
          below = w.within;
          hit = w.hit;
          new = w.after_it;
          olds = λ j l t. old_before i e j w.none l t;
          later = h;
        }

    -- place i has none either
    none_either : NoCandidate symbols₀ symbols rights first places few held stay i old → NoneNew old test first places i
    none_either none j m a b c t =
        ⊎_elim
        (λ z. let k : j ≡ i = omega (arith, z) in
        old_before i first m none c (ap (λ (p : ℕ). test p m) (sym k) ∙ t))
        (λ l. h j m (omega (arith, l)) b c t)
        (eq-or-lt_of_le a)

    newest_step : (NoneNew old test first places i → NewestIs (newest_to symbols rights old first i))
        → NewestIs (newest_to symbols rights old first (suc i))
    unfolding newest_to
    newest_step r = go (next_of symbols (get_or rights i 0) old first) refl
      where
        go : (x : Option ℕ) → next_of symbols (get_or rights i 0) old first ≡ x → NewestIs (newest_to symbols rights old first (suc i))
        go (Some e) q = rw q (found e (candidate symbols₀ symbols rights first places few held stay i old e q))
        go None q = rw q (r (none_either (none_further symbols₀ symbols rights first places few held stay i old q)))

  newest_by : (k : ℕ) → k ≤ places → NoneNew old test first places k → NewestIs (newest_to symbols rights old first k)
  unfolding newest_to
  newest_by zero l h = h
  newest_by (suc i) l h = newest_step i l h (newest_by i (omega (arith, l)))

  pub newest_is : NewestIs (newest_to symbols rights old first places)
  newest_is = newest_by places (omega arith) (λ j e a b. absurd (omega (arith, a, b)))

  -- ---- the turn

  -- candidates that are not all old
  pub record Lively (picked : List ℕ) : Type 0 where
    pub numbers : Numbers places first picked
    pub hits : (j : ℕ) → j < places → test j (get_or picked j 0) ≡ true
    pub some_new : all_below old (take places picked) ≡ false

  module _ (i fresh : ℕ) (last : Last i fresh) where
    -- at the last place the first new one is picked
    module _ (xs : List ℕ) (numbers : Numbers places first xs) (hits : (j : ℕ) → j < places → test j (get_or xs j 0) ≡ true) where
      long : length xs ≡ 7
      long = numbers_long places first xs few numbers

      in_xs : i < length xs
      in_xs = omega (arith, last.low, few, long)

      fresh_new : all_below old (take places (set xs i fresh)) ≡ false
      fresh_new =
          not_all old (take places (set xs i fresh)) i
          (omega (arith, length-take places (set xs i fresh), length-set xs i fresh, last.low, few, long))
          (rw (get_or-take places (set xs i fresh) i 0 last.low, get_or-set_same xs i fresh 0 in_xs) last.new)

      set_lively : Lively (set xs i fresh)
      set_lively =
          record {
            numbers = numbers_set places first xs i fresh few last.low last.below numbers;
            hits =
                λ j l. set_at (λ v. test j v ≡ true) xs i j fresh in_xs (λ z. ap (λ (p : ℕ). test p fresh) z ∙ last.hit) (λ z. hits j l);
            some_new = fresh_new;
          }

      -- they are all old, and from the last place on the first candidates: on to the next that is not
      passes_over : ((j : ℕ) → i ≤ j → j < places → First test first places j (get_or xs j 0)) → all_below old (take places xs) ≡ true
          → with_new old (take places xs ∷ after xs) ≡ take places (set xs i fresh) ∷ with_new old (after (set xs i fresh))
      passes_over firsts olds =
          skips old test first places i fresh xs last.low (omega (arith, few, long)) last.below last.hit last.new last.olds last.later
          (all_taken old xs i (λ j l m. let k : j < places = omega (arith, l, last.low) in
          rw (← get_or-take places xs j 0 k) (each_below old (take places xs) j olds (omega (arith, length-take places xs, k, m)))))
          firsts fresh_new

      -- the first of those from xs on that is not all old
      pub record Leads (ys : List ℕ) : Type 0 where
        pub lively : Lively ys
        pub leads : with_new old (take places xs ∷ after xs) ≡ take places ys ∷ with_new old (after ys)

      leads_on : ((olds : all_below old (take places xs) ≡ true) (j : ℕ) → i ≤ j → j < places → First test first places j (get_or xs j 0))
          → Leads (skipped old places i fresh xs)
      leads_on firsts = go (all_below old (take places xs)) refl
        where
          go : (b : Bool) → all_below old (take places xs) ≡ b → Leads (skipped old places i fresh xs)
          go true q = rw q (record { lively = set_lively; leads = passes_over (firsts q) q })
          go false q =
              rw q
              (record {
                lively = record { numbers = numbers; hits = hits; some_new = q };
                leads = one_new old (take places xs) (after xs) q;
              })

    -- where the turn begins
    pub begins_new : (firsts : List ℕ) (numbers : Numbers places first firsts) (all : Firsts test first places firsts)
        → let ys = skipped old places i fresh firsts in
        Lively ys × (with_new old (combos_of test first places 0) ≡ take places ys ∷ with_new old (after ys))
    begins_new firsts numbers all =
        let w = leads_on firsts numbers (λ j l. (all j l).hit) (λ olds j a b. all j b) in
        let long : places ≤ length firsts = omega (arith, few, numbers_long places first firsts few numbers) in
        (w.lively, ap (with_new old) (begins test first places firsts long all) ∙ w.leads)

    -- and how it goes on
    module _ (firsts picked : List ℕ) (m : Moved) (lively : Lively picked) (goes : GoesOn test first places picked m) where
      pub ends_new : m.more ≡ false → with_new old (after picked) ≡ []
      unfolding keep
      ends_new h = ap (with_new old) (goes.none h)

      module _ (more : m.more ≡ true) where
        hits_then : (j : ℕ) → j < places → test j (get_or m.numbers j 0) ≡ true
        hits_then j l =
            let v = goes.moved_at more in
            ⊎_elim
            (λ a. rw (v.before j a) (lively.hits j l))
            (λ a. ⊎_elim
            (λ z. let k : v.place ≡ j = omega (arith, z) in
            ap (λ (p : ℕ). test p (get_or m.numbers p 0)) (sym k) ∙ v.hit)
            (λ b. (v.again j b l).hit)
            (eq-or-lt_of_le a))
            (apart j v.place)

        -- where the next combination is all old, a place before the last has moved
        module _ (olds : all_below old (take places m.numbers) ≡ true) where
          abbrev at : ℕ
          at = (goes.moved_at more).place

          next_old : (j : ℕ) → j < places → get_or m.numbers j 0 < old
          next_old j l =
              rw (← get_or-take places m.numbers j 0 l)
              (each_below old (take places m.numbers) j olds
              (omega (arith, l, few, length-take places m.numbers, numbers_long places first m.numbers few goes.numbers)))

          -- else the picked numbers were all old
          picked_old : i ≤ at → (j : ℕ) → j < places → get_or picked j 0 < old
          picked_old h j l =
              let v = goes.moved_at more in
              ⊎_elim
              (λ a. rw (← v.before j a) (next_old j l))
              (λ (a : at ≤ j). ⊎_elim
              (λ (z : at ≡ j). let k : j ≡ at = omega (arith, z) in
              rw k (omega (arith, v.further, next_old at v.low)))
              (λ b. last.later j (get_or picked j 0) (omega (arith, b, h)) l (lively.numbers.below j l) (lively.hits j l))
              (eq-or-lt_of_le a))
              (apart j at)

          earlier : at < i
          earlier =
              ⊎_elim (λ l. l)
              (λ h. absurd (false≢true (sym lively.some_new
              ∙ all_of old (take places picked) (λ j l. let k : j < places = omega (arith, l, length-take places picked) in
              rw (get_or-take places picked j 0 k) (picked_old h j k)))))
              (apart at i)

        pub goes_on_new :
            let ys = skipped old places i fresh m.numbers in
            Lively ys × (with_new old (after picked) ≡ take places ys ∷ with_new old (after ys))
        goes_on_new =
            let w = leads_on m.numbers goes.numbers hits_then (λ olds j a b. (goes.moved_at more).again j (omega (arith, a, earlier olds)) b) in
            (w.lively, ap (with_new old) (goes.next more) ∙ w.leads)
