-- A turn that tries what is not settled settles its production. Assumes nothing.
use mathlib.Core.Path.{refl}
use mathlib.Core.Logic.{◌⊎◌, inl, inr}
use mathlib.Core.List.Memᴰ
use mathlib.Core.List.{List, [], ◌∷◌, Memᴰ}
use Prim.Native.Nat.{ℕ, ◌≤◌, ◌<◌}
use Rattle.rules.specs.Passes.{System}
use Rattle.orders.specs.Stored.{FitsIn, Combination}
use Rattle.orders.specs.Modes.{Mode, Candidate, Later, Settled, Turned, Lawful}
use Rattle.orders.specs.Plans.{Plan, end, next, tries_plan}
use Rattle.numbers.proofs.Members.{at_cons}
use Rattle.orders.proofs.Combinations.{fits_map}
use Rattle.orders.proofs.Points.{size, Rest, Goes}
use Rattle.orders.proofs.Kept.{later_none, later_then, later_combination, later_settled, Ready, Kept, Went, went, ready_later}

module _ {W : System} (M : Mode W) where
  -- one candidate for each of the symbols
  abbrev pub Offer : M.Store → List ℕ → List ℕ → Type 0
  Offer s = FitsIn (M.entries s) (Candidate M s)

  pub offer_fits : (s : M.Store) (c bs : List ℕ) → Offer s c bs → Combination (M.entries s) (size M s) c bs
  offer_fits s c bs f = fits_map (M.entries s) (Candidate M s) (λ i. i < size M s) (λ i h. h.0) c bs f

-- ---- turns that a plan makes, in a room of R
module _ {W : System} (M : Mode W) (laws : Lawful M) (Part : ℕ → Type 0) (R : ℕ) where
  -- all is kept, and there was room for it
  pub record Good (s : M.Store) : Type 0 where
    pub kept : Kept M laws Part s
    pub room : size M s ≤ R

  -- what was tried first stays settled
  pub first_settled : (p : ℕ) (c : List ℕ) (cs : List (List ℕ)) (s t u : M.Store) → Ready M Part s p c → Went M laws Part p c s t
      → Later M t u → ((d : List ℕ) → Memᴰ d cs → Settled M u p d) → (d : List ℕ) → Memᴰ d (c ∷ cs) → Settled M u p d
  first_settled p c cs s t u r w l h d m =
      let z = later_settled M t u l p c (later_combination M s t w.later c (W.rights p) r.fits) w.settled in
      at_cons (Settled M u p) z (h d) m

  module _ (Q : M.Store → Type 0) where
    -- every try that the plan chooses is ready, and where the plan is over Q holds
    abbrev pub Always : Plan M.Store → M.Store → Type 0
    Always (end n) s = Q s
    Always (next n p c f) s = Ready M Part s p c × ((t : M.Store) → Good t → Goes M p c s t → Always (f t) t)

    always_tries : (n p : ℕ) (cs : List (List ℕ)) (f : Rest M) (s : M.Store) → Good s
        → ((c : List ℕ) → Memᴰ c cs → Ready M Part s p c)
        → ((t : M.Store) → Good t → Later M s t → ((c : List ℕ) → Memᴰ c cs → Settled M t p c) → Always (f t) t)
        → Always (tries_plan n p cs f s) s
    unfolding tries_plan
    always_tries n p [] f s g r h = h s g (later_none M s) (λ c m. absurd (Memᴰ.not-nil m))
    always_tries n p (c ∷ cs) f s g r h =
        let ready = r c (Memᴰ.head refl) in (
          ready,
          λ t gt e.
              let w = went M laws Part p c s t g.kept ready e in
              always_tries n p cs f t gt (λ d m. ready_later M Part s t w.later p d (r d (Memᴰ.tail m)))
              (λ u gu l d. h u gu (later_then M s t u w.later l) (first_settled p c cs s t u ready w l d)),
        )

    -- a turn that tries what is not settled
    pub always_turn : (n p : ℕ) (cs : List (List ℕ)) (f : Rest M) (s : M.Store) → Good s → Part p
        → ((c : List ℕ) → Memᴰ c cs → Combination (M.entries s) (size M s) c (W.rights p))
        → ((c : List ℕ) → Offer M s c (W.rights p) → Memᴰ c cs ⊎ Settled M s p c)
        → ((t : M.Store) → Good t → Turned M p s t → Always (f t) t)
        → Always (tries_plan n p cs f s) s
    always_turn n p cs f s g part fit all h =
        always_tries n p cs f s g (λ c m. record { part = part; fits = fit c m })
        (λ t gt l d. h t gt (record { later = l; settles = λ c i. go t l d c i (all c i) }))
      where
        go : (t : M.Store) → Later M s t → ((c : List ℕ) → Memᴰ c cs → Settled M t p c) → (c : List ℕ)
            → Offer M s c (W.rights p) → Memᴰ c cs ⊎ Settled M s p c → Settled M t p c
        go t l d c i (inl m) = d c m
        go t l d c i (inr z) = later_settled M s t l p c (offer_fits M s c (W.rights p) i) z
