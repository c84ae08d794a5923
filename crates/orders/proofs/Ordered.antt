-- The plan of a careful order: where it is over, everything is settled. Passes are such an order. Assumes nothing.
use mathlib.Core.Path.{◌≡◌, refl, ap}
use mathlib.Core.Logic.{◌⊎◌, inl, inr}
use mathlib.Core.Bool.{Bool, true, false, not, cond}
use mathlib.Core.List.Memᴰ
use mathlib.Core.List.{List, [], ◌∷◌, Memᴰ}
use Prim.Native.Nat.{ℕ, zero, suc, ◌-◌, ◌≤◌, ◌<◌}
use native.Mathlib.Omega.{arith}
use lib.Dec.{eqb}
use lib.ListN.{length}
use borrow.Author.Tests.{eqb-true, eqb-false}
use Rattle.numbers.proofs.Members.{at_cons, keep_at, keep_mem}
use Rattle.rules.specs.Passes.{System}
use Rattle.rules.specs.Fresh.{Since, no_turn, began, stale, unstale}
use Rattle.orders.specs.Stored.{In}
use Rattle.orders.specs.Modes.{Mode, Later, Settled, AllSettled, Lawful}
use Rattle.orders.specs.Orders.{Order, over, turn, order_plan, all_of, fresh_of, Combos, Offers, turns_order, after_turns, passes_order, Rests, Careful, passes_plan_of}
use Rattle.orders.proofs.Points.{size}
use Rattle.orders.proofs.Kept.{later_none, later_longer, later_then, later_settled, kept_start}
use Rattle.orders.proofs.Turns.{Offer, offer_fits, Good, Always, always_turn}
use Rattle.orders.proofs.Since.{began_own, began_cases, began_up, Swept, swept_start, swept_turn, swept_stale, swept_rests}

-- ---- the plan of a careful order
module _ {W : System} (M : Mode W) (laws : Lawful M) (Part : ℕ → Type 0) (R : ℕ) (offers : Offers M) where
  pub always_order : (o : Order M.Store) (since : Since) (s : M.Store) → Good M laws Part R s → Swept M s since (Settled M s)
      → Careful M Part R o since s → Always M laws Part R (AllSettled M Part) (order_plan (size M) offers.of o since s) s
  unfolding order_plan
  always_order (over n) since s g w c = λ p m d f. swept_rests M s since (Settled M s) w p d f (c p m)
  always_order (turn n p f) since s g w c =
      always_turn M laws Part R (AllSettled M Part) n p (offers.of (since p) p s)
      (λ t. order_plan (size M) offers.of (f t) (began p (size M s) since) t) s g
      c.0 (λ d m. offer_fits M s d (W.rights p) (offers.fit (since p) p s d m)) (λ d i. go d i (offers.all (since p) p s d i))
      (λ t gt e.
      always_order (f t) (began p (size M s) since) t gt
      (swept_turn M s t since (Settled M s) (Settled M t) p w e.later
      (λ q d i z. later_settled M s t e.later q d i z) e.settles)
      (c.1 t gt.room e))
    where
      go : (d : List ℕ) → Offer M s d (W.rights p) → Memᴰ d (offers.of (since p) p s) ⊎ (stale (since p) d ≡ true)
          → Memᴰ d (offers.of (since p) p s) ⊎ Settled M s p d
      go d i (inl m) = inl m
      go d i (inr z) = inr (swept_stale M s since (Settled M s) w p d i z)

-- ---- all combinations, or those that are not stale
module _ {W : System} (M : Mode W) (K : Combos M) where
  abbrev pub all_offers : Offers M
  all_offers = record { of = all_of K.of; fit = λ k p s c m. K.fit p s c m; all = λ k p s c i. inl (K.all p s c i) }

  pub fresh_fit : (k p : ℕ) (s : M.Store) (c : List ℕ) → Memᴰ c (fresh_of K.of k p s) → Offer M s c (W.rights p)
  unfolding unstale
  fresh_fit k p s c m = K.fit p s c (keep_mem (λ d. not (stale k d)) (K.of p s) m).0

  pub fresh_all : (k p : ℕ) (s : M.Store) (c : List ℕ) → Offer M s c (W.rights p) → Memᴰ c (fresh_of K.of k p s) ⊎ (stale k c ≡ true)
  unfolding unstale
  fresh_all k p s c i = go (stale k c) refl
    where
      go : (b : Bool) → stale k c ≡ b → Memᴰ c (fresh_of K.of k p s) ⊎ (stale k c ≡ true)
      go true e = inr e
      go false e = inl (keep_at (λ d. not (stale k d)) (K.of p s) (K.all p s c i) (ap not e))

  abbrev pub fresh_offers : Offers M
  fresh_offers = record { of = fresh_of K.of; fit = fresh_fit; all = fresh_all }

-- ---- passes
module _ {W : System} (M : Mode W) (R : ℕ) where
  -- no turn has begun with more entries than there are
  abbrev Within : Since → M.Store → Type 0
  Within since s = (q k : ℕ) → since q ≡ suc k → k ≤ size M s

  within_turn : (p : ℕ) (since : Since) (s t : M.Store) → Later M s t → Within since s → Within (began p (size M s) since) t
  within_turn p since s t l w q k e = go (began_cases p (size M s) since q k e)
    where
      go : ((q ≡ p) × (k ≡ size M s)) ⊎ (since q ≡ suc k) → k ≤ size M t
      go (inl z) = omega (arith, z.1, later_longer M s t l)
      go (inr z) = omega (arith, w q k z, later_longer M s t l)

  -- p had a turn that began with k entries or more
  abbrev Had : Since → ℕ → ℕ → Type 0
  Had since k p = (j : ℕ) × (since p ≡ suc j) × (k ≤ j)

  had_turn : (p : ℕ) (since : Since) (s : M.Store) → Within since s → (k q : ℕ) → Had since k q → Had (began p (size M s) since) k q
  had_turn p since s w k q h =
      let z = began_up p (size M s) since q h.0 (w q h.0 h.1) h.1 in
      (z.0, z.1, omega (arith, h.2, z.2))

  -- the turns of the productions ps have led from s to t
  pub record Round (ps : List ℕ) (since since' : Since) (s t : M.Store) : Type 0 where
    pub later : Later M s t
    pub within : Within since' t
    pub room : size M t ≤ R
    pub had : (q : ℕ) → Memᴰ q ps → Had since' (size M s) q
    pub stays : (k q : ℕ) → Had since k q → Had since' k q

  round_none : (since : Since) (s : M.Store) → size M s ≤ R → Within since s → Round [] since since s s
  round_none since s l w = record {
    later = later_none M s;
    within = w;
    room = l;
    had = λ q m. absurd (Memᴰ.not-nil m);
    stays = λ k q h. h;
  }

  round_then : (p : ℕ) (ps : List ℕ) (since since' : Since) (s t u : M.Store) → Within since s → Later M s t
      → Round ps (began p (size M s) since) since' t u → Round (p ∷ ps) since since' s u
  round_then p ps since since' s t u w l z = record {
    later = later_then M s t u l z.later;
    within = z.within;
    room = z.room;
    had = λ q m. at_cons (λ r. Had since' (size M s) r) (z.stays (size M s) p (size M s, began_own p (size M s) since, omega arith))
        (λ n. earlier q (z.had q n)) m;
    stays = λ k q h. z.stays k q (had_turn p since s w k q h);
  }
    where
      earlier : (q : ℕ) → Had since' (size M t) q → Had since' (size M s) q
      earlier q h = (h.0, h.1, omega (arith, h.2, later_longer M s t l))

  -- turns that stored nothing leave their productions at rest
  round_rests : (ps : List ℕ) (since since' : Since) (s t : M.Store) → Round ps since since' s t → size M t ≤ size M s
      → (p : ℕ) → In ps p → Rests M since' t p
  round_rests ps since since' s t z l p m =
      let h = z.had p m in
      record { stored = h.0; latest = h.1; none = λ i c n. omega (arith, c.0, h.2) }

  module _ (Part : ℕ → Type 0) where
    careful_turns : (n : ℕ) (ps : List ℕ) (f : M.Store → Order M.Store) (since : Since) (s : M.Store) → size M s ≤ R → Within since s
        → ((p : ℕ) → In ps p → Part p)
        → ((since' : Since) (t : M.Store) → Round ps since since' s t → Careful M Part R (f t) since' t)
        → Careful M Part R (turns_order n ps f s) since s
    unfolding turns_order
    careful_turns n [] f since s l w part h = h since s (round_none since s l w)
    careful_turns n (p ∷ ps) f since s l w part h = (
      part p (Memᴰ.head refl),
      λ t lt e.
          careful_turns n ps f (began p (size M s) since) t lt (within_turn p since s t e.later w) (λ q m. part q (Memᴰ.tail m))
          (λ since' u z. h since' u (round_then p ps since since' s t u w e.later z)),
    )

  -- each pass but the last stores an entry
  careful_passes : (fuel : ℕ) (ps : List ℕ) (n : ℕ) (since : Since) (s : M.Store) → size M s ≤ R → R - size M s < fuel → Within since s
      → Careful M (In ps) R (passes_order (size M) fuel ps n s) since s
  unfolding passes_order
  careful_passes zero ps n since s l e w = absurd (omega arith)
  careful_passes (suc fuel) ps n since s l e w =
      careful_turns (In ps) (suc n) ps (after_turns (size M) (suc n) (size M s) (passes_order (size M) fuel ps (suc n))) since s l w
      (λ p m. m)
      (λ since' t z. go since' t z (eqb (size M t) (size M s)) refl (λ d. careful_passes fuel ps (suc n) since' t z.room d z.within))
    where
      go : (since' : Since) (t : M.Store) → Round ps since since' s t → (b : Bool) → eqb (size M t) (size M s) ≡ b
          → (R - size M t < fuel → Careful M (In ps) R (passes_order (size M) fuel ps (suc n) t) since' t)
          → Careful M (In ps) R (cond b (over (suc n)) (passes_order (size M) fuel ps (suc n) t)) since' t
      go since' t z true q ih =
          let x = eqb-true (size M t) (size M s) q in round_rests ps since since' s t z (omega arith)
      go since' t z false q ih =
          let x : size M t ≡ size M s → ⊥ = eqb-false (size M t) (size M s) q in
          ih (omega (arith, later_longer M s t z.later, z.room))

  pub passes_careful : (ps : List ℕ) (fuel : ℕ) → R < fuel
      → Careful M (In ps) R (passes_order (size M) fuel ps 0 M.start) no_turn M.start
  passes_careful ps fuel h =
      careful_passes fuel ps 0 no_turn M.start (omega (arith, ap length M.none)) (omega arith) (λ q k e. absurd (omega (arith, e)))

module _ {W : System} (M : Mode W) (laws : Lawful M) (ps : List ℕ) (R : ℕ) where
  pub good_start : Good M laws (In ps) R M.start
  good_start = record { kept = kept_start M laws (In ps); room = omega (arith, ap length M.none) }

  -- so passes leave everything settled, whether or not they try what is stale
  pub always_passes : (offers : Offers M) (fuel : ℕ) → R < fuel
      → Always M laws (In ps) R (AllSettled M (In ps)) (passes_plan_of M offers.of ps fuel) M.start
  always_passes offers fuel h =
      always_order M laws (In ps) R offers (passes_order (size M) fuel ps 0 M.start) no_turn M.start good_start
      (swept_start M M.start (Settled M M.start)) (passes_careful M R ps fuel h)
