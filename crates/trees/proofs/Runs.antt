-- Evaluators over any graph on finitely many values: with no circle something may be taken until all is computed; on a circle nothing is
-- ever computed; each run ends. Assumes nothing.
use mathlib.Core.Bool.{Bool, true, false, true≢false}
use mathlib.Core.List.Memᴰ
use mathlib.Core.List.{List, [], ◌∷◌, Memᴰ}
use mathlib.Core.Logic.{◌⊎◌, inl, inr, ⊎_elim, ⊎_map}
use mathlib.Core.Path.{◌≡◌, refl, sym, ◌∙◌, subst, ap₂}
use Prim.Native.Nat.{ℕ, zero, suc, ◌+◌, ◌≤◌, ◌<◌}
use native.Mathlib.Omega.{arith}
use lib.ListN.{length}
use Rattle.numbers.specs.Lists.{Distinct}
use Rattle.numbers.specs.Paths.{Plus, one, Circle}
use Rattle.trees.specs.Evaluator.{Computed, true_if, taken, one_unless, left, Ready, Run, start, take}
use Rattle.numbers.proofs.Members.{at_cons}
use Rattle.numbers.proofs.Pigeons.{Without, without}
use Rattle.trees.proofs.Paths.{Star, stay, go, plus_star, before}

one_unless_suc : (b : Bool) (n : ℕ) → one_unless b (suc n) ≡ suc (one_unless b n)
one_unless_suc true n = refl
one_unless_suc false n = refl

pub left_none : {A : Type 0} (c : Computed A) (l : List A) → ((x : A) → Memᴰ x l → c x ≡ true) → left c l ≡ 0
left_none c [] h = refl
left_none c (x ∷ l) h = rw (h x (Memᴰ.head refl)) (left_none c l (λ y m. h y (Memᴰ.tail m)))

pub none_left : {A : Type 0} (c : Computed A) (l : List A) → left c l ≡ 0 → (x : A) → Memᴰ x l → c x ≡ true
none_left c [] e x m = absurd (Memᴰ.not-nil m)
none_left {A} c (y ∷ l) e x m = by (c y) refl e (λ f. none_left c l f x)
  where
    by : (b : Bool) → c y ≡ b → one_unless b (left c l) ≡ 0 → (left c l ≡ 0 → Memᴰ x l → c x ≡ true) → c x ≡ true
    by true h f rest = at_cons (λ (z : A). c z ≡ true) h (rest f) m
    by false h f rest = absurd (omega arith)

-- ---- a taking

module _ {A : Type 0} (eq : Discrete A) (c : Computed A) (y : A) where
  pub taken_cases : (x : A) → (x ≡ y) ⊎ (taken eq c y x ≡ c x)
  unfolding taken
  taken_cases x = by (eq x y)
    where
      by : (d : Dec (x ≡ y)) → (x ≡ y) ⊎ (true_if d (c x) ≡ c x)
      by (yes e) = inl e
      by (no n) = inr refl

  pub taken_same : taken eq c y y ≡ true
  unfolding taken
  taken_same = by (eq y y)
    where
      by : (d : Dec (y ≡ y)) → true_if d (c y) ≡ true
      by (yes e) = refl
      by (no n) = absurd (n refl)

  -- what is not in the list is not counted
  left_apart : (l : List A) → (¬ Memᴰ y l) → left (taken eq c y) l ≡ left c l
  left_apart [] n = refl
  left_apart (x ∷ l) n =
      ap₂ one_unless (⊎_elim (λ e. absurd (n (Memᴰ.head (sym e)))) (λ e. e) (taken_cases x))
      (left_apart l (λ m. n (Memᴰ.tail m)))

  -- a taking leaves one value less
  pub left_taken : c y ≡ false → (l : List A) → Distinct l → Memᴰ y l → left c l ≡ suc (left (taken eq c y) l)
  left_taken h [] d m = absurd (Memᴰ.not-nil m)
  left_taken h (x ∷ l) (n, d) m = by (Memᴰ.cases_cons m) (taken_cases x) (λ k. left_taken h l d k)
    where
      by :
          (y ≡ x) ⊎ Memᴰ y l → (x ≡ y) ⊎ (taken eq c y x ≡ c x) → (Memᴰ y l → left c l ≡ suc (left (taken eq c y) l))
          → left c (x ∷ l) ≡ suc (left (taken eq c y) (x ∷ l))
      by (inl e) s f = rw (← e, h, taken_same, left_apart l (λ k. n (Memᴰ.cast (sym e) k))) refl
      by (inr k) (inl e) f = absurd (n (Memᴰ.cast e k))
      by (inr k) (inr e) f = rw (e, f k) (one_unless_suc (c x) (left (taken eq c y) l))

-- ---- runs

module _ {A : Type 0} (eq : Discrete A) (E : A → A → Type 0) (values : List A) where
  -- on a circle nothing is ever computed
  pub blocked :
      {c d : Computed A} {n : ℕ}
      → ((x : A) → Plus E x x → c x ≡ false) → Run eq E values c n d
      → (x : A) → Plus E x x → d x ≡ false
  blocked h start x p = h x p
  blocked h (take {d = d} r y q) x p = by (λ z k. blocked h r z k) (taken_cases eq d y x)
    where
      by : ((z : A) → Plus E z z → d z ≡ false) → (x ≡ y) ⊎ (taken eq d y x ≡ d x) → taken eq d y x ≡ false
      by ih (inl e) =
          let b = before p in
          absurd (true≢false (sym (q.sources b.0 (subst (λ (w : A). E b.0 w) e b.1)) ∙ ih b.0 b.2))
      by ih (inr e) = e ∙ ih x p

  -- each taking leaves one value less
  pub counted : Distinct values → {c d : Computed A} {n : ℕ} → Run eq E values c n d → n + left d values ≡ left c values
  counted once start = omega arith
  counted once (take {d = d} r y q) =
      omega (arith, left_taken eq d y q.uncomputed values once q.among, counted once r)

-- ---- no circle: wherever a value is not computed, some value may be taken
module _
    {A : Type 0} (E : A → A → Type 0) (values : List A) (c : Computed A) (no_circle : ¬ Circle E)
    (sources : (x y : A) → E x y → Memᴰ x values)
    (find : (y : A) → ((x : A) × E x y × (c x ≡ false)) ⊎ ((x : A) → E x y → c x ≡ true)) where
  abbrev Found : Type 0
  Found = (y : A) × Ready E values c y

  -- y is uncomputed, and each value is reached from y or among the rest
  record Back (y : A) (rest : List A) : Type 0 where
    among : Memᴰ y values
    uncomputed : c y ≡ false
    covered : (x : A) → Memᴰ x values → Star E y x ⊎ Memᴰ x rest

  -- from y to an uncomputed source z of y: z is among the rest, as there is no circle, and the rest shrinks
  advance : (y : A) (rest : List A) → Back y rest → ((z : A) (fewer : List A) → length fewer < length rest → Back z fewer → Found) → Found
  advance y rest b below = by (find y)
    where
      reached : (z : A) → E z y → (c z ≡ false) → Star E y z ⊎ Memᴰ z rest → Found
      reached z e u (inl p) = absurd (no_circle (z, plus_star (one e) p))
      reached z e u (inr m) =
          below z w.rest (omega (arith, w.shorter))
          (record { among = sources z y e; uncomputed = u; covered = λ x k. over x (b.covered x k) })
        where
          w : Without z rest
          w = without m

          over : (x : A) → Star E y x ⊎ Memᴰ x rest → Star E z x ⊎ Memᴰ x w.rest
          over x (inl p) = inl (go (plus_star (one e) p))
          over x (inr k) = ⊎_map (λ q. subst (λ (v : A). Star E z v) (sym q) stay) (λ m. m) (w.others x k)

      by : ((x : A) × E x y × (c x ≡ false)) ⊎ ((x : A) → E x y → c x ≡ true) → Found
      by (inl (z, e, u)) = reached z e u (b.covered z (sources z y e))
      by (inr h) = (y, record { among = b.among; uncomputed = b.uncomputed; sources = h })

  walk : (n : ℕ) (y : A) (rest : List A) → length rest ≤ n → Back y rest → Found
  walk zero y rest l b = advance y rest b (λ z fewer h k. absurd (omega arith))
  walk (suc n) y rest l b = advance y rest b (λ z fewer h k. walk n z fewer (omega arith) k)

  pub something_ready : (y : A) → Memᴰ y values → c y ≡ false → (z : A) × Ready E values c z
  something_ready y m h = walk (length values) y values (omega arith) (record { among = m; uncomputed = h; covered = λ x k. inr k })
