-- What a production's latest turn has settled, and what stays so. Assumes nothing.
use mathlib.Core.Path.{◌≡◌, refl, sym, ap, subst}
use mathlib.Core.Logic.{◌⊎◌, inl, inr}
use mathlib.Core.Bool.{Bool, true, false, cond, false≢true}
use mathlib.Core.List.Memᴰ
use mathlib.Core.List.{List, [], ◌∷◌, Memᴰ}
use Prim.Native.Nat.{ℕ, zero, suc, ◌≤◌, ◌<◌}
use native.Mathlib.Omega.{arith}
use lib.Dec.{ltb, eqb}
use borrow.Author.Tests.{eqb-true, eq-eqb}
use Rattle.numbers.specs.Lists.{every}
use Rattle.numbers.proofs.Members.{at_cons}
use Rattle.numbers.proofs.Decides.{Decides, lt_decides, every_decides}
use Rattle.rules.specs.declared.Entry.{Entry}
use Rattle.rules.specs.Passes.{System}
use Rattle.rules.specs.Fresh.{Since, no_turn, began, stale}
use Rattle.orders.specs.Stored.{FitsIn, Combination}
use Rattle.orders.specs.Modes.{Mode, Candidate, Later}
use Rattle.orders.specs.Orders.{Rests}
use Rattle.orders.proofs.Combinations.{fits_map, fits_less}
use Rattle.orders.proofs.Points.{size}
use Rattle.orders.proofs.Kept.{later_longer}
use Rattle.orders.proofs.Turns.{Offer}

-- ---- a turn begins
pub began_own : (p n : ℕ) (since : Since) → began p n since p ≡ suc n
unfolding began
began_own p n since = ap (λ b. cond b (suc n) (since p)) (eq-eqb p p refl)

pub began_cases : (p n : ℕ) (since : Since) (q k : ℕ) → began p n since q ≡ suc k → ((q ≡ p) × (k ≡ n)) ⊎ (since q ≡ suc k)
unfolding began
began_cases p n since q k e = go (eqb q p) refl e
  where
    go : (b : Bool) → eqb q p ≡ b → cond b (suc n) (since q) ≡ suc k → ((q ≡ p) × (k ≡ n)) ⊎ (since q ≡ suc k)
    go true h x = inl (eqb-true q p h, omega (arith, x))
    go false h x = inr x

-- it began no earlier
pub began_up : (p n : ℕ) (since : Since) (q k : ℕ) → k ≤ n → since q ≡ suc k → (j : ℕ) × (began p n since q ≡ suc j) × (k ≤ j)
unfolding began
began_up p n since q k l e = go (eqb q p)
  where
    go : (b : Bool) → (j : ℕ) × (cond b (suc n) (since q) ≡ suc j) × (k ≤ j)
    go true = (n, refl, l)
    go false = (k, e, omega arith)

-- ---- stale combinations
pub under_decides : (n : ℕ) (c : List ℕ) → Decides (every (λ i. ltb i n) c) ((i : ℕ) → Memᴰ i c → i < n)
under_decides n c = every_decides (λ i. ltb i n) (λ i. i < n) (λ i. lt_decides i n) c

pub stale_below : (k : ℕ) (c : List ℕ) → stale k c ≡ true → (n : ℕ) × (k ≡ suc n) × ((i : ℕ) → Memᴰ i c → i < n)
unfolding stale
stale_below zero c h = absurd (false≢true h)
stale_below (suc n) c h = (n, refl, (under_decides n c).so h)

pub below_stale : (n : ℕ) (c : List ℕ) → ((i : ℕ) → Memᴰ i c → i < n) → stale (suc n) c ≡ true
unfolding stale
below_stale n c h = (under_decides n c).passes h

-- stale for a turn, so stale for a later one
pub stale_up : (k m : ℕ) (c : List ℕ) → ((n : ℕ) → k ≡ suc n → (j : ℕ) × (m ≡ suc j) × (n ≤ j)) → stale k c ≡ true → stale m c ≡ true
stale_up k m c up h =
    let x = stale_below k c h in
    let y = up x.0 x.1 in
    subst (λ z. stale z c ≡ true) (sym y.1) (below_stale y.0 c (λ i l. omega (arith, x.2 i l, y.2)))

pub fits_below : (es : List Entry) (n : ℕ) (c bs : List ℕ) → Combination es n c bs → (i : ℕ) → Memᴰ i c → i < n
fits_below es n [] bs f i m = absurd (Memᴰ.not-nil m)
fits_below es n (k ∷ c) [] f i m = absurd f
fits_below es n (k ∷ c) (b ∷ bs) f i m = at_cons (λ j. j < n) f.0 (λ l. fits_below es n c bs f.2 i l) m

-- a bound for each number
pub fits_each : (es : List Entry) (P Q : ℕ → Type 0) (c bs : List ℕ) → ((i : ℕ) → Memᴰ i c → P i → Q i) → FitsIn es P c bs
    → FitsIn es Q c bs
fits_each es P Q [] [] h f = tt
fits_each es P Q [] (b ∷ bs) h f = f
fits_each es P Q (k ∷ c) [] h f = f
fits_each es P Q (k ∷ c) (b ∷ bs) h f =
    (h k (Memᴰ.head refl) f.0, f.1, fits_each es P Q c bs (λ i m. h i (Memᴰ.tail m)) f.2)

module _ {W : System} (M : Mode W) where
  -- the live entries below k
  abbrev pub Under : M.Store → ℕ → ℕ → Type 0
  Under s k i = (i < k) × M.Live s i

  -- X holds of each production with each combination of live entries that were stored when its latest turn began
  pub record Swept (s : M.Store) (since : Since) (X : ℕ → List ℕ → Type 0) : Type 0 where
    pub within : (q k : ℕ) → since q ≡ suc k → k ≤ size M s
    pub swept : (q k : ℕ) → since q ≡ suc k → (c : List ℕ) → FitsIn (M.entries s) (Under s k) c (W.rights q) → X q c

  pub swept_start : (s : M.Store) (X : ℕ → List ℕ → Type 0) → Swept s no_turn X
  swept_start s X = record { within = λ q k e. absurd (omega (arith, e)); swept = λ q k e. absurd (omega (arith, e)) }

  -- a combination of live entries that were stored before
  under_back : (s t : M.Store) → Later M s t → (k : ℕ) → k ≤ size M s → (c bs : List ℕ) → FitsIn (M.entries t) (Under t k) c bs
      → FitsIn (M.entries s) (Under s k) c bs
  under_back s t l k h c bs f =
      fits_less (M.entries s) l.more (Under s k) (λ i u. omega (arith, u.0)) c bs
      (subst (λ es. FitsIn es (Under s k) c bs) l.stays
      (fits_map (M.entries t) (Under t k) (Under s k) (λ i u. (u.0, l.retired i (omega (arith, u.0)) u.1)) c bs f))

  under_combination : (s : M.Store) (k : ℕ) → k ≤ size M s → (c bs : List ℕ) → FitsIn (M.entries s) (Under s k) c bs
      → Combination (M.entries s) (size M s) c bs
  under_combination s k h c bs f =
      fits_map (M.entries s) (Under s k) (λ i. i < size M s) (λ i u. omega (arith, u.0)) c bs f

  module _ (s t : M.Store) (since : Since) (X Y : ℕ → List ℕ → Type 0) (p : ℕ) (sw : Swept s since X) (l : Later M s t)
      (old : (q : ℕ) (c : List ℕ) → Combination (M.entries s) (size M s) c (W.rights q) → X q c → Y q c)
      (new : (c : List ℕ) → Offer M s c (W.rights p) → Y p c) where
    pub swept_turn : Swept t (began p (size M s) since) Y
    swept_turn = record {
      within = λ q k e. in_range q k (began_cases p (size M s) since q k e);
      swept = λ q k e c f. by q k c f (began_cases p (size M s) since q k e);
    }
      where
        in_range : (q k : ℕ) → ((q ≡ p) × (k ≡ size M s)) ⊎ (since q ≡ suc k) → k ≤ size M t
        in_range q k (inl z) = omega (arith, z.1, later_longer M s t l)
        in_range q k (inr z) = omega (arith, sw.within q k z, later_longer M s t l)

        by : (q k : ℕ) (c : List ℕ) → FitsIn (M.entries t) (Under t k) c (W.rights q) → ((q ≡ p) × (k ≡ size M s)) ⊎ (since q ≡ suc k)
            → Y q c
        by q k c f (inl z) =
            let b = under_back s t l k (omega (arith, z.1)) c (W.rights q) f in
            let d = fits_map (M.entries s) (Under s k) (Candidate M s) (λ i u. (omega (arith, u.0, z.1), u.1)) c (W.rights q) b in
            subst (λ r. Y r c) (sym z.0) (new c (subst (λ r. Offer M s c (W.rights r)) z.0 d))
        by q k c f (inr z) =
            let h = sw.within q k z in
            let b = under_back s t l k h c (W.rights q) f in
            old q c (under_combination s k h c (W.rights q) b) (sw.swept q k z c b)

  module _ (s : M.Store) (since : Since) (X : ℕ → List ℕ → Type 0) (sw : Swept s since X) (p : ℕ) (c : List ℕ)
      (f : Offer M s c (W.rights p)) where
    pub swept_stale : stale (since p) c ≡ true → X p c
    swept_stale h =
        let z = stale_below (since p) c h in
        sw.swept p z.0 z.1 c (fits_each (M.entries s) (Candidate M s) (Under s z.0) c (W.rights p) (λ i m k. (z.2 i m, k.1)) f)

    pub swept_rests : Rests M since s p → X p c
    swept_rests r = sw.swept p r.stored r.latest c (go c (W.rights p) (λ b m. m) f)
      where
        go : (d bs : List ℕ) → ((b : ℕ) → Memᴰ b bs → Memᴰ b (W.rights p)) → Offer M s d bs
            → FitsIn (M.entries s) (Under s r.stored) d bs
        go [] [] k g = tt
        go [] (b ∷ bs) k g = g
        go (x ∷ d) [] k g = g
        go (x ∷ d) (b ∷ bs) k g = (
          (r.none x g.0 (Memᴰ.cast g.1 (k b (Memᴰ.head refl))), g.0.1),
          g.1,
          go d bs (λ e m. k e (Memᴰ.tail m)) g.2,
        )
