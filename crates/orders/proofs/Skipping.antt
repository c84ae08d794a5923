-- To leave out what is settled changes nothing but the number of closures. Assumes nothing.
use mathlib.Core.Path.{◌≡◌, refl, sym, ◌∙◌}
use mathlib.Core.Bool.{Bool, true, false, not, cond, true≢false}
use mathlib.Core.List.Memᴰ
use mathlib.Core.List.{List, [], ◌∷◌, Memᴰ}
use Prim.Native.Nat.{ℕ, suc, ◌≤◌}
use native.Mathlib.Omega.{arith}
use lib.Dec.{leb}
use borrow.Author.Tests.{leb-true, leb-false, not-false}
use Rattle.numbers.specs.Lists.{keep}
use Rattle.rules.specs.declared.Answer.TheVariants.{OutOfSteps}
use Rattle.rules.specs.Passes.{System}
use Rattle.rules.specs.Fresh.{Since, began, stale, unstale}
use Rattle.orders.specs.Modes.{Judged, round, needless, fresh, Mode, Later, Settled, Turned, Shown, circle, added, Lawful}
use Rattle.orders.specs.Plans.{Plan, end, next, End, tried, run, tries_plan}
use Rattle.orders.specs.Orders.{Order, over, turn, order_plan, all_of, fresh_of, Combos, Careful}
use Rattle.orders.proofs.Points.{size, Rest, longer, Goes, passed, stored}
use Rattle.orders.proofs.Kept.{later_none, later_then, later_settled, Ready, ready_later, Went, went}
use Rattle.orders.proofs.Turns.{offer_fits, Good, first_settled}
use Rattle.orders.proofs.Since.{Swept, swept_turn, swept_stale}

-- what is settled is needless
pub settled_needless : {W : System} (M : Mode W) (laws : Lawful M) (p : ℕ) (c : List ℕ) (s : M.Store) → laws.Sound s → Settled M s p c
    → M.judge p c s ≡ needless
settled_needless {W} M laws p c s sound z = go (M.judge p c s) (laws.judges p c s sound)
  where
    go : (j : Judged M.Store) → Shown M laws.Sound p c s j → j ≡ needless
    go round (circle h) = absurd (true≢false (sym h ∙ z.calm))
    go needless h = refl
    go (fresh t) (added calm new k l d) = absurd (new z.covered)

module _ {W : System} (M : Mode W) (laws : Lawful M) (Part : ℕ → Type 0) (R : ℕ) where
  -- the second plan is the first without some tries that are settled
  pub data Skips : Plan M.Store → Plan M.Store → M.Store → Type 0 where
    alike : {n : ℕ} {s : M.Store} → Skips (end n) (end n) s
    both : {n p : ℕ} {c : List ℕ} {f g : Rest M} {s : M.Store} → Ready M Part s p c
        → ((t : M.Store) → Good M laws Part R t → Goes M p c s t → Skips (f t) (g t) t) → Skips (next n p c f) (next n p c g) s
    left : {n p : ℕ} {c : List ℕ} {f : Rest M} {Q : Plan M.Store} {s : M.Store} → Settled M s p c → Skips (f s) Q s
        → Skips (next n p c f) Q s

  -- the second end is the first with no more closures
  pub record Spares (e e' : End M.Store) : Type 0 where
    pub answer : e'.answer ≡ e.answer
    pub root : e'.root ≡ e.root
    pub store : e'.store ≡ e.store
    pub begun : e'.begun ≡ e.begun
    pub made : e'.made ≤ e.made

  module _ (L : ℕ) where
    pub any_skips : {P Q : Plan M.Store} {s : M.Store} → Skips P Q s → Good M laws Part R s → (m k : ℕ) → k ≤ m
        → ((run M L R P s m).answer ≡ OutOfSteps → ⊥) → Spares (run M L R P s m) (run M L R Q s k)
    unfolding run tried
    any_skips alike g m k h x = record { answer = refl; root = refl; store = refl; begun = refl; made = h }
    any_skips (both {n = n} {p = p} {c = c} {f = f} {g = h} {s = s} r then) g m k l x =
        go (leb L m) refl (leb L k) refl (M.judge p c s) refl (leb R (size M s)) refl x
        (λ t i d j. any_skips (then t i d) i (suc m) (suc k) j)
      where
        go : (a : Bool) → leb L m ≡ a → (b : Bool) → leb L k ≡ b → (j : Judged M.Store) → M.judge p c s ≡ j
            → (d : Bool) → leb R (size M s) ≡ d
            → ((tried a j d n p c s m (λ t i. run M L R (f t) t i)).answer ≡ OutOfSteps → ⊥)
            → ((t : M.Store) → Good M laws Part R t → Goes M p c s t → suc k ≤ suc m
            → ((run M L R (f t) t (suc m)).answer ≡ OutOfSteps → ⊥) → Spares (run M L R (f t) t (suc m)) (run M L R (h t) t (suc k)))
            → Spares (tried a j d n p c s m (λ t i. run M L R (f t) t i)) (tried b j d n p c s k (λ t i. run M L R (h t) t i))
        go true e b e' j q d w y ih = absurd (y refl)
        go false e true e' j q d w y ih = absurd (omega (arith, leb-false L m e, leb-true L k e'))
        go false e false e' round q d w y ih = record { answer = refl; root = refl; store = refl; begun = refl; made = omega arith }
        go false e false e' needless q d w y ih = ih s g (passed q) (omega arith) y
        go false e false e' (fresh t) q true w y ih = record { answer = refl; root = refl; store = refl; begun = refl; made = omega arith }
        go false e false e' (fresh t) q false w y ih =
            let z = went M laws Part p c s t g.kept r (stored q) in
            ih t (record { kept = z.kept; room = omega (arith, longer M p c s t q, leb-false R (size M s) w) }) (stored q) (omega arith) y
    any_skips (left {n = n} {p = p} {c = c} {f = f} {Q = Q} {s = s} z rest) g m k l x =
        go (leb L m) (M.judge p c s) (settled_needless M laws p c s g.kept.sound z) x (any_skips rest g (suc m) k (omega arith))
      where
        go : (a : Bool) (j : Judged M.Store) → j ≡ needless
            → ((tried a j (leb R (size M s)) n p c s m (λ t i. run M L R (f t) t i)).answer ≡ OutOfSteps → ⊥)
            → (((run M L R (f s) s (suc m)).answer ≡ OutOfSteps → ⊥) → Spares (run M L R (f s) s (suc m)) (run M L R Q s k))
            → Spares (tried a j (leb R (size M s)) n p c s m (λ t i. run M L R (f t) t i)) (run M L R Q s k)
        go true j e y ih = absurd (y refl)
        go false round e y ih = let w : ◌≡◌ {A = ℕ} 0 1 = cc in absurd (omega arith)
        go false needless e y ih = ih y
        go false (fresh t) e y ih = let w : ◌≡◌ {A = ℕ} 0 1 = cc in absurd (omega arith)

  -- ---- turns without what is stale
  skips_tries : (n p : ℕ) (test : List ℕ → Bool) (cs : List (List ℕ)) (f g : Rest M) (s : M.Store) → Good M laws Part R s
      → ((c : List ℕ) → Memᴰ c cs → Ready M Part s p c)
      → ((c : List ℕ) → Memᴰ c cs → test c ≡ false → Settled M s p c)
      → ((t : M.Store) → Good M laws Part R t → Later M s t → ((c : List ℕ) → Memᴰ c cs → Settled M t p c) → Skips (f t) (g t) t)
      → Skips (tries_plan n p cs f s) (tries_plan n p (keep test cs) g s) s
  unfolding tries_plan keep
  skips_tries n p test [] f g s good r o h = h s good (later_none M s) (λ c m. absurd (Memᴰ.not-nil m))
  skips_tries n p test (c ∷ cs) f g s good r o h = go (test c) refl (skips_tries n p test cs f g)
    where
      ready : Ready M Part s p c
      ready = r c (Memᴰ.head refl)

      -- the rest of the turn, from t on
      Onward : M.Store → Type 0
      Onward t =
          Good M laws Part R t → ((d : List ℕ) → Memᴰ d cs → Ready M Part t p d)
          → ((d : List ℕ) → Memᴰ d cs → test d ≡ false → Settled M t p d)
          → ((u : M.Store) → Good M laws Part R u → Later M t u → ((d : List ℕ) → Memᴰ d cs → Settled M u p d) → Skips (f u) (g u) u)
          → Skips (tries_plan n p cs f t) (tries_plan n p (keep test cs) g t) t

      -- after a try from s to t
      on : (t : M.Store) → Good M laws Part R t → Went M laws Part p c s t → Onward t
          → Skips (tries_plan n p cs f t) (tries_plan n p (keep test cs) g t) t
      on t gt w ih =
          ih gt (λ d m. ready_later M Part s t w.later p d (r d (Memᴰ.tail m)))
          (λ d m e. later_settled M s t w.later p d (r d (Memᴰ.tail m)).fits (o d (Memᴰ.tail m) e))
          (λ u gu l d. h u gu (later_then M s t u w.later l) (first_settled M laws Part R p c cs s t u ready w l d))

      go : (b : Bool) → test c ≡ b → ((t : M.Store) → Onward t)
          → Skips (next n p c (tries_plan n p cs f)) (tries_plan n p (cond b (c ∷ keep test cs) (keep test cs)) g s) s
      go true e ih = both ready (λ t gt i. on t gt (went M laws Part p c s t good.kept ready i) (ih t))
      go false e ih =
          let z = o c (Memᴰ.head refl) e in
          left z (on s good (record { kept = good.kept; later = later_none M s; settled = z }) (ih s))

  pub skips_order : (K : Combos M) (o : Order M.Store) (since : Since) (s : M.Store) → Good M laws Part R s
      → Swept M s since (Settled M s) → Careful M Part R o since s
      → Skips (order_plan (size M) (all_of K.of) o since s) (order_plan (size M) (fresh_of K.of) o since s) s
  unfolding order_plan unstale
  skips_order K (over n) since s g w c = alike
  skips_order K (turn n p f) since s g w c =
      skips_tries n p (λ d. not (stale (since p) d)) (K.of p s)
      (λ t. order_plan (size M) (all_of K.of) (f t) (began p (size M s) since) t)
      (λ t. order_plan (size M) (fresh_of K.of) (f t) (began p (size M s) since) t) s g
      (λ d m. record { part = c.0; fits = offer_fits M s d (W.rights p) (K.fit p s d m) })
      (λ d m e. swept_stale M s since (Settled M s) w p d (K.fit p s d m) (not-false (stale (since p) d) e))
      (λ t gt l d.
      let e : Turned M p s t = record { later = l; settles = λ b i. d b (K.all p s b i) } in
      skips_order K (f t) (began p (size M s) since) t gt
      (swept_turn M s t since (Settled M s) (Settled M t) p w l (λ q b i z. later_settled M s t l q b i z) e.settles)
      (c.1 t gt.room e))
