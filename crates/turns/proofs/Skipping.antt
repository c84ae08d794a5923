-- Where the picked numbers are all below a number, and one place is the last that can bring another, all combinations up to the first with
-- such a one at that place are passed over. Assumes nothing.
use mathlib.Core.Path.{◌≡◌, refl, sym, ap, ◌∙◌}
use mathlib.Core.Bool.{Bool, true, false, not, cond}
use mathlib.Core.List.{List, [], ◌∷◌, ◌++◌, map, append_assoc}
use Prim.Native.Nat.{ℕ, zero, suc, ◌+◌, ◌-◌, ◌≤◌, ◌<◌}
use native.Mathlib.Omega.{arith}
use lib.Dec.{ltb}
use lib.ListN.{length, get_or, set, take, length-set}
use lib.Seq.{get_or-set_other}
use borrow.Author.Tests.{lt-ltb}
use Rattle.std.specs.List.{All}
use Rattle.std.proofs.lemmas.List.Elements.{All-nil, All-cons, All-head, All-tail, All-append, All-map, All-weaker}
use Rattle.std.proofs.lemmas.List.Sums.{list_all-from_AllPass}
use Rattle.numbers.specs.Lists.{up_from, keep}
use Rattle.numbers.proofs.Keeping.{up_from_split, keep_append}
use Rattle.rules.specs.Passes.{prefixed, combinations}
use Rattle.turns.specs.Combos.{under, candidates_from, combos_of, combos_from, part_from, behind, First}
use Rattle.turns.specs.Skips.{all_below, with_new}
use Rattle.turns.proofs.Odometer.{under_append, prefixed_append, at_firsts, all_part, part_hit, after_pick}

-- ---- lists of which each element is such

pub all_keep : (P : ℕ → Type 0) (t : ℕ → Bool) (i m : ℕ) → ((j : ℕ) → i ≤ j → j < i + m → t j ≡ true → P j) → All P (keep t (up_from i m))
unfolding keep up_from
all_keep P t i zero h = All-nil P
all_keep P t i (suc m) h = go (t i) refl (all_keep P t (suc i) m (λ j a b. h j (omega arith) (omega arith)))
  where
    go : (b : Bool) → t i ≡ b → All P (keep t (up_from (suc i) m)) → All P (cond (t i) (i ∷ keep t (up_from (suc i) m)) (keep t (up_from (suc i) m)))
    go true q r = rw q (All-cons P i _ (h i (omega arith) (omega arith) q) r)
    go false q r = rw q r

all_places : {A : Type 0} (P : A → Type 0) (f : ℕ → A) (i m : ℕ) → ((j : ℕ) → i ≤ j → j < i + m → P (f j)) → All P (map f (up_from i m))
unfolding up_from
all_places P f i zero h = All-nil P
all_places P f i (suc m) h =
    All-cons P (f i) _ (h i (omega arith) (omega arith)) (all_places P f (suc i) m (λ j a b. h j (omega arith) (omega arith)))

module _ (P : ℕ → Type 0) where
  all_prefixed : (xs : List ℕ) (cs : List (List ℕ)) → All P xs → All (All P) cs → All (All P) (prefixed xs cs)
  unfolding prefixed
  all_prefixed [] cs h i = All-nil (All P)
  all_prefixed (x ∷ xs) cs h i =
      All-append (All P) (map (λ c. x ∷ c) cs) (prefixed xs cs)
      (All-map (All P) (λ c. x ∷ c) cs (All-weaker (All P) (λ c. All P (x ∷ c)) (λ c p. All-cons P x c (All-head P x xs h) p) cs i))
      (all_prefixed xs cs (All-tail P x xs h) i)

  all_combinations : (xss : List (List ℕ)) → All (All P) xss → All (All P) (combinations xss)
  unfolding combinations
  all_combinations [] h = All-cons (All P) [] [] (All-nil P) (All-nil (All P))
  all_combinations (xs ∷ xss) h =
      all_prefixed xs (combinations xss) (All-head (All P) xs xss h) (all_combinations xss (All-tail (All P) xs xss h))

  all_under : (chosen : List ℕ) → All P chosen → (cs : List (List ℕ)) → All (All P) cs → All (All P) (under chosen cs)
  unfolding under
  all_under chosen p cs h =
      All-map (All P) (λ c. chosen ++ c) cs (All-weaker (All P) (λ c. All P (chosen ++ c)) (λ c q. All-append P chosen c p q) cs h)

-- ---- what is below a number

module _ (old : ℕ) where
  abbrev Old : ℕ → Type 0
  Old x = x < old

  pub all_below_lem : (c : List ℕ) → All Old c → all_below old c ≡ true
  all_below_lem c h = list_all-from_AllPass (λ x. ltb x old) c (All-weaker Old (λ x. ltb x old ≡ true) (λ x l. lt-ltb x old l) c h)

  pub none_new : (cs : List (List ℕ)) → All (All Old) cs → with_new old cs ≡ []
  unfolding keep
  none_new [] h = refl
  none_new (c ∷ cs) h = rw (all_below_lem c (All-head (All Old) c cs h)) (none_new cs (All-tail (All Old) c cs h))

  pub one_new : (c : List ℕ) (cs : List (List ℕ)) → all_below old c ≡ false → with_new old (c ∷ cs) ≡ c ∷ with_new old cs
  unfolding keep
  one_new c cs h = rw h

  pub new_append : (a b : List (List ℕ)) → with_new old (a ++ b) ≡ with_new old a ++ with_new old b
  new_append a b = keep_append (λ c. not (all_below old c)) a b

  module _ (test : ℕ → ℕ → Bool) (n places : ℕ) where
    abbrev part : ℕ → ℕ → List ℕ → List (List ℕ)
    part = part_from test n places

    abbrev after : ℕ → List ℕ → List (List ℕ)
    after = behind test n places

    -- no place from i on has a candidate from `old` on
    abbrev pub NoneNew : ℕ → Type 0
    NoneNew i = (j e : ℕ) → i ≤ j → j < places → e < n → test j e ≡ true → e < old

    later_old : (i : ℕ) → NoneNew i → All (All Old) (combos_of test n places i)
    unfolding combos_of
    later_old i h =
        all_combinations Old (map (λ j. candidates_from test n places j 0) (up_from i (places - i)))
        (all_places (All Old) (λ j. candidates_from test n places j 0) i (places - i) (λ j a b.
        all_keep Old (test j) 0 (n - 0) (λ e x y z. h j e a (omega (arith, b)) (omega (arith, y)) z)))

    -- nothing to try is left
    pub nothing_new : NoneNew 0 → with_new old (combos_of test n places 0) ≡ []
    unfolding combos_of
    nothing_new h = none_new _ (later_old 0 h)

    -- at the last place with a new candidate, those before the first of these bring nothing
    pub part_new : (i e f : ℕ) (picked : List ℕ) → e ≤ f → f ≤ n → All Old (take i picked) → NoneNew (suc i)
        → ((j : ℕ) → e ≤ j → j < f → test i j ≡ true → j < old)
        → with_new old (part i e picked) ≡ with_new old (part i f picked)
    unfolding part_from
    part_new i e f picked l u chosen later here =
        let m : n - e ≡ (f - e) + (n - f) = omega arith in
        let k : e + (f - e) ≡ f = omega arith in
        let rest = combos_of test n places (suc i) in
        let front = keep (test i) (up_from e (f - e)) in
        let split : candidates_from test n places i e ≡ front ++ candidates_from test n places i f =
        ap (λ (j : ℕ). keep (test i) (up_from e j)) m
        ∙ ap (keep (test i)) (up_from_split e (f - e) (n - f))
        ∙ keep_append (test i) (up_from e (f - e)) (up_from (e + (f - e)) (n - f))
        ∙ ap (λ (j : ℕ). front ++ keep (test i) (up_from j (n - f))) k in
        ap (λ (xs : List ℕ). with_new old (under (take i picked) (prefixed xs rest))) split
        ∙ ap (λ (cs : List (List ℕ)). with_new old (under (take i picked) cs)) (prefixed_append front (candidates_from test n places i f) rest)
        ∙ ap (with_new old) (under_append (take i picked) (prefixed front rest) (prefixed (candidates_from test n places i f) rest))
        ∙ new_append (under (take i picked) (prefixed front rest)) (under (take i picked) (prefixed (candidates_from test n places i f) rest))
        ∙ ap (λ (cs : List (List ℕ)). cs ++ with_new old (under (take i picked) (prefixed (candidates_from test n places i f) rest)))
        (none_new (under (take i picked) (prefixed front rest))
        (all_under Old (take i picked) chosen (prefixed front rest)
        (all_prefixed Old front rest (all_keep Old (test i) e (f - e) (λ j a b c. here j a (omega (arith, b, k)) c)) (later_old (suc i) later))))

    -- from picked numbers that are all old, on to the first new candidate of the last place that has one
    pub skips : (i fresh : ℕ) (picked : List ℕ) → i < places → places ≤ length picked → fresh < n → test i fresh ≡ true → old ≤ fresh
        → ((j : ℕ) → j < fresh → test i j ≡ true → j < old)
        → NoneNew (suc i) → All Old (take i picked)
        → ((j : ℕ) → i ≤ j → j < places → First test n places j (get_or picked j 0))
        → all_below old (take places (set picked i fresh)) ≡ false
        → with_new old (take places picked ∷ after places picked)
        ≡ take places (set picked i fresh) ∷ with_new old (after places (set picked i fresh))
    skips i fresh picked low long l hit new here later chosen firsts lively =
        let next = set picked i fresh in
        let in_picked : i < length picked = omega (arith, low, long) in
        ap (with_new old) (sym (at_firsts test n places (places - i) i picked (omega (arith, low)) long firsts))
        ∙ ap (λ (cs : List (List ℕ)). with_new old (cs ++ after i picked)) (all_part test n places i picked low)
        ∙ new_append (part i 0 picked) (after i picked)
        ∙ ap (λ (cs : List (List ℕ)). cs ++ with_new old (after i picked))
        (part_new i 0 fresh picked (omega arith) (omega (arith, l)) chosen later (λ j a b c. here j b c))
        ∙ sym (new_append (part i fresh picked) (after i picked))
        ∙ ap (λ (cs : List (List ℕ)). with_new old (cs ++ after i picked)) (part_hit test n places i fresh picked l hit in_picked)
        ∙ ap (with_new old)
        (append_assoc (combos_from test n places (suc i) next) (part i (suc fresh) picked) (after i picked)
        ∙ ap (λ (cs : List (List ℕ)). combos_from test n places (suc i) next ++ cs) (sym (after_pick test n places i picked fresh in_picked))
        ∙ at_firsts test n places (places - suc i) (suc i) next (omega (arith, low)) (rw (length-set picked i fresh) long)
        (λ j a b. rw (get_or-set_other picked i j fresh 0 (λ z. omega (arith, z, a))) (firsts j (omega (arith, a)) b)))
        ∙ one_new (take places next) (after places next) lively
