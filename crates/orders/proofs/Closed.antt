-- The closures of a run whose turns leave out what is stale: none is made twice. Assumes nothing.
use mathlib.Core.Path.{◌≡◌, refl, sym, ap, ◌∙◌, subst}
use mathlib.Core.Logic.{◌⊎◌, inl, inr}
use mathlib.Core.Bool.{Bool, true, false, not, true≢false}
use mathlib.Core.List.Memᴰ
use mathlib.Core.List.{List, [], ◌∷◌, Memᴰ}
use Prim.Native.Nat.{ℕ, suc, ◌≤◌, ◌<◌}
use native.Mathlib.Omega.{arith}
use lib.ListN.{length}
use borrow.Author.Tests.{le-leb, lt-leb, not-true}
use Rattle.numbers.specs.Lists.{keep, Distinct}
use Rattle.numbers.proofs.Members.{at_cons, keep_at, keep_mem}
use Rattle.numbers.proofs.Distinct.{distinct_keep}
use Rattle.rules.specs.declared.Answer.{Answer}
use Rattle.rules.specs.declared.Answer.TheVariants.{Noncircular, Circular, Refused, OutOfSteps, OutOfRoom}
use Rattle.rules.specs.Passes.{System}
use Rattle.rules.specs.Fresh.{Since, began, stale, unstale}
use Rattle.orders.specs.Stored.{Combination}
use Rattle.orders.specs.Modes.{Mode, Later, Settled, Turned, Lawful}
use Rattle.orders.specs.Plans.{Plan, end, next, End, run, tries_plan}
use Rattle.orders.specs.Orders.{Order, over, turn, order_plan, fresh_of, Combos, Careful}
use Rattle.orders.specs.Closures.{Closure, closing, closed}
use Rattle.orders.proofs.Points.{size, Rest, longer, Goes, passed, stored, Last, over as done, spent, circled, packed, point}
use Rattle.orders.proofs.Kept.{later_none, later_then, later_settled, Ready, ready_later, Kept, kept_start, Went, went}
use Rattle.orders.proofs.Turns.{Offer, offer_fits, Good}
use Rattle.orders.proofs.Since.{began_own, began_up, below_stale, stale_up, fits_below, Swept, swept_turn, swept_stale, swept_rests}

module _ {W : System} (M : Mode W) (laws : Lawful M) (Part : ℕ → Type 0) where
  -- the closures that were made before s
  pub record Trace (s : M.Store) (l : List Closure) : Type 0 where
    pub once : Distinct l
    pub ready : (x : Closure) → Memᴰ x l → Ready M Part s x.0 x.1
    pub settled : (x : Closure) → Memᴰ x l → Settled M s x.0 x.1

  pub trace_none : (s : M.Store) → Trace s []
  trace_none s = record { once = tt; ready = λ x m. absurd (Memᴰ.not-nil m); settled = λ x m. absurd (Memᴰ.not-nil m) }

  -- one closure more
  trace_more : (p : ℕ) (c : List ℕ) (s t : M.Store) (l : List Closure) → Ready M Part s p c → Went M laws Part p c s t → Trace s l
      → (Memᴰ {A = Closure} (p, c) l → ⊥) → Trace t ((p, c) ∷ l)
  trace_more p c s t l r w z n = record {
    once = (n, z.once);
    ready = λ x m.
        at_cons (λ (y : Closure). Ready M Part t y.0 y.1) (ready_later M Part s t w.later p c r)
        (λ k. ready_later M Part s t w.later x.0 x.1 (z.ready x k)) m;
    settled = λ x m.
        at_cons (λ (y : Closure). Settled M t y.0 y.1) w.settled
        (λ k. later_settled M s t w.later x.0 x.1 (z.ready x k).fits (z.settled x k)) m;
  }

  -- every combination of live entries was closed
  abbrev pub Complete : M.Store → List Closure → Type 0
  Complete s l = (p : ℕ) → Part p → (c : List ℕ) → Offer M s c (W.rights p) → Memᴰ {A = Closure} (p, c) l

  module _ (R : ℕ) where
    -- every try that the plan chooses is ready and was not made before, and where the plan is over every combination was closed
    abbrev pub Logged : Plan M.Store → M.Store → List Closure → Type 0
    Logged (end n) s l = Complete s l
    Logged (next n p c f) s l =
        Ready M Part s p c × (Memᴰ {A = Closure} (p, c) l → ⊥)
        × ((t : M.Store) → Good M laws Part R t → Goes M p c s t → Logged (f t) t ((p, c) ∷ l))

    -- ---- turns without what is stale
    -- what the tries of p over cs have added
    pub record More (p : ℕ) (cs : List (List ℕ)) (s t : M.Store) (l k : List Closure) : Type 0 where
      pub later : Later M s t
      pub stays : (x : Closure) → Memᴰ x l → Memᴰ x k
      pub has : (c : List ℕ) → Memᴰ c cs → Memᴰ {A = Closure} (p, c) k
      pub only : (x : Closure) → Memᴰ x k → Memᴰ x l ⊎ ((x.0 ≡ p) × Memᴰ x.1 cs)

    more_none : (p : ℕ) (s : M.Store) (l : List Closure) → More p [] s s l l
    more_none p s l = record {
      later = later_none M s;
      stays = λ x m. m;
      has = λ c m. absurd (Memᴰ.not-nil m);
      only = λ x m. inl m;
    }

    more_then : (p : ℕ) (c : List ℕ) (cs : List (List ℕ)) (s t u : M.Store) (l k : List Closure) → Went M laws Part p c s t
        → More p cs t u ((p, c) ∷ l) k → More p (c ∷ cs) s u l k
    more_then p c cs s t u l k w z = record {
      later = later_then M s t u w.later z.later;
      stays = λ x m. z.stays x (Memᴰ.tail m);
      has = λ d m. at_cons (λ e. Memᴰ {A = Closure} (p, e) k) (z.stays (p, c) (Memᴰ.head refl)) (λ n. z.has d n) m;
      only = λ x m. go x (z.only x m);
    }
      where
        last : (x : Closure) → (x ≡ (p, c)) ⊎ Memᴰ x l → Memᴰ x l ⊎ ((x.0 ≡ p) × Memᴰ x.1 (c ∷ cs))
        last x (inl e) = inr (ap (λ (y : Closure). y.0) e, Memᴰ.head (ap (λ (y : Closure). y.1) e))
        last x (inr m) = inl m

        go : (x : Closure) → Memᴰ x ((p, c) ∷ l) ⊎ ((x.0 ≡ p) × Memᴰ x.1 cs)
            → Memᴰ x l ⊎ ((x.0 ≡ p) × Memᴰ x.1 (c ∷ cs))
        go x (inl m) = last x (Memᴰ.cases_cons m)
        go x (inr m) = inr (m.0, Memᴰ.tail m.1)

    logged_tries : (n p : ℕ) (cs : List (List ℕ)) (f : Rest M) (s : M.Store) (l : List Closure) → Good M laws Part R s → Trace s l → Distinct cs
        → ((c : List ℕ) → Memᴰ c cs → Ready M Part s p c)
        → ((c : List ℕ) → Memᴰ c cs → Memᴰ {A = Closure} (p, c) l → ⊥)
        → ((t : M.Store) (k : List Closure) → Good M laws Part R t → Trace t k → More p cs s t l k → Logged (f t) t k)
        → Logged (tries_plan n p cs f s) s l
    unfolding tries_plan
    logged_tries n p [] f s l g z d r new h = h s l g z (more_none p s l)
    logged_tries n p (c ∷ cs) f s l g z d r new h = (
      r c (Memᴰ.head refl),
      new c (Memᴰ.head refl),
      λ t gt e.
          let ready = r c (Memᴰ.head refl) in
          let w = went M laws Part p c s t g.kept ready e in
          logged_tries n p cs f t ((p, c) ∷ l) gt (trace_more p c s t l ready w z (new c (Memᴰ.head refl))) d.1
          (λ b m. ready_later M Part s t w.later p b (r b (Memᴰ.tail m)))
          (λ b m k. apart b m (Memᴰ.cases_cons k))
          (λ u k gu y v. h u k gu y (more_then p c cs s t u l k w v)),
    )
      where
        apart : (b : List ℕ) → Memᴰ b cs → ◌≡◌ {A = Closure} (p, b) (p, c) ⊎ Memᴰ {A = Closure} (p, b) l → ⊥
        apart b m (inl e) = d.0 (subst (λ a. Memᴰ a cs) (ap (λ (y : Closure). y.1) e) m)
        apart b m (inr k) = new b (Memᴰ.tail m) k

    module _ (K : Combos M) where
      -- what was closed is stale
      abbrev Past : Since → List Closure → Type 0
      Past since l = (x : Closure) → Memᴰ x l → stale (since x.0) x.1 ≡ true

      past_turn : (p : ℕ) (s t : M.Store) (since : Since) (l k : List Closure) (cs : List (List ℕ)) → More p cs s t l k
          → ((q j : ℕ) → since q ≡ suc j → j ≤ size M s)
          → ((c : List ℕ) → Memᴰ c cs → Combination (M.entries s) (size M s) c (W.rights p)) → Past since l
          → Past (began p (size M s) since) k
      past_turn p s t since l k cs z within fits past x m = go (z.only x m)
        where
          go : Memᴰ x l ⊎ ((x.0 ≡ p) × Memᴰ x.1 cs) → stale (began p (size M s) since x.0) x.1 ≡ true
          go (inl n) =
              stale_up (since x.0) (began p (size M s) since x.0) x.1
              (λ j e. began_up p (size M s) since x.0 j (within x.0 j e) e) (past x n)
          go (inr n) =
              subst (λ q. stale (began p (size M s) since q) x.1 ≡ true) (sym n.0)
              (subst (λ j. stale j x.1 ≡ true) (sym (began_own p (size M s) since))
              (below_stale (size M s) x.1 (fits_below (M.entries s) (size M s) x.1 (W.rights p) (fits x.1 n.1))))

      pub logged_order : (o : Order M.Store) (since : Since) (s : M.Store) (l : List Closure) → Good M laws Part R s → Trace s l
          → Swept M s since (λ q c. Memᴰ {A = Closure} (q, c) l) → Past since l → Careful M Part R o since s
          → Logged (order_plan (size M) (fresh_of K.of) o since s) s l
      unfolding order_plan unstale
      logged_order (over n) since s l g z w b c =
          λ p m d f. swept_rests M s since (λ q e. Memᴰ {A = Closure} (q, e) l) w p d f (c p m)
      logged_order (turn n p f) since s l g z w b c =
          logged_tries n p cs (λ t. order_plan (size M) (fresh_of K.of) (f t) (began p (size M s) since) t) s l g z
          (distinct_keep (λ d. not (stale (since p) d)) (K.of p s) (K.once p s))
          (λ d m. record { part = c.0; fits = fits d m })
          (λ d m k. true≢false (sym (b (p, d) k) ∙ not-true (stale (since p) d) (keep_mem (λ e. not (stale (since p) e)) (K.of p s) m).1))
          (λ t k gt y v.
          let offered : (d : List ℕ) → Offer M s d (W.rights p) → Memᴰ {A = Closure} (p, d) k = λ d i. in_log t k v d i
          (stale (since p) d) refl in
          let e : Turned M p s t = record { later = v.later; settles = λ d i. y.settled (p, d) (offered d i) } in
          logged_order (f t) (began p (size M s) since) t k gt y
          (swept_turn M s t since (λ q d. Memᴰ {A = Closure} (q, d) l) (λ q d. Memᴰ {A = Closure} (q, d) k) p w v.later
          (λ q d i j. v.stays (q, d) j) offered)
          (past_turn p s t since l k cs v w.within fits b)
          (c.1 t gt.room e))
        where
          cs : List (List ℕ)
          cs = keep (λ d. not (stale (since p) d)) (K.of p s)

          fits : (d : List ℕ) → Memᴰ d cs → Combination (M.entries s) (size M s) d (W.rights p)
          fits d m = offer_fits M s d (W.rights p) (K.fit p s d (keep_mem (λ e. not (stale (since p) e)) (K.of p s) m).0)

          in_log : (t : M.Store) (k : List Closure) → More p cs s t l k → (d : List ℕ) → Offer M s d (W.rights p)
              → (a : Bool) → stale (since p) d ≡ a → Memᴰ {A = Closure} (p, d) k
          in_log t k v d i true e = v.stays (p, d) (swept_stale M s since (λ q j. Memᴰ {A = Closure} (q, j) l) w p d i e)
          in_log t k v d i false e = v.has d (keep_at (λ j. not (stale (since p) j)) (K.of p s) (K.all p s d i) (ap not e))

  -- ---- the last point, with the closures made
  module _ (L R : ℕ) where
    -- one closure of a run
    closed_goes : (n p : ℕ) (c : List ℕ) (f : Rest M) (s t : M.Store) (l : List Closure) → length l < L → Goes M p c s t → size M t ≤ R
        → closed M L R (next n p c f) s l ≡ closed M L R (f t) t ((p, c) ∷ l)
    unfolding closed closing
    closed_goes n p c f s t l h (passed e) r = rw (lt-leb L (length l) h, e) refl
    closed_goes n p c f s t l h (stored e) r =
        let k : size M s < R = omega (arith, longer M p c s t e) in
        rw (lt-leb L (length l) h, e, lt-leb R (size M s) k) refl

    -- the whole of the closures is xs; up to here it is `log`
    pub record Log (xs : List Closure) (P : Plan M.Store) (s : M.Store) (m : ℕ) : Type 0 where
      pub log : List Closure
      pub count : length log ≡ m
      pub whole : xs ≡ closed M L R P s log
      pub kept : Kept M laws Part s
      pub trace : Trace s log
      pub logged : Logged R P s log

    pub keeps_log : (xs : List Closure) (n p : ℕ) (c : List ℕ) (f : Rest M) (s t : M.Store) (m : ℕ) → Log xs (next n p c f) s m → m < L
        → Goes M p c s t → size M t ≤ R → Log xs (f t) t (suc m)
    keeps_log xs n p c f s t m i h g r =
        let w = went M laws Part p c s t i.kept i.logged.0 g in
        let b : length i.log < L = omega (arith, i.count) in
        record {
          log = (p, c) ∷ i.log;
          count = ap suc i.count;
          whole = i.whole ∙ closed_goes n p c f s t i.log b g r;
          kept = w.kept;
          trace = trace_more p c s t i.log i.logged.0 w i.trace i.logged.1;
          logged = i.logged.2 t (record { kept = w.kept; room = r }) g;
        }

    pub log_start : (P : Plan M.Store) → Logged R P M.start [] → Log (closed M L R P M.start []) P M.start 0
    log_start P h = record {
      log = [];
      count = refl;
      whole = refl;
      kept = kept_start M laws Part;
      trace = trace_none M.start;
      logged = h;
    }

    pub record Closed (e : End M.Store) (xs : List Closure) : Type 0 where
      pub count : length xs ≡ e.made
      pub once : Distinct xs
      pub ready : (x : Closure) → Memᴰ x xs → Ready M Part e.store x.0 x.1
      pub over : e.answer ≡ Noncircular → Complete e.store xs

    abbrev IsOver : Answer → Type 0
    IsOver Noncircular = Unit {0}
    IsOver (Circular p) = ⊥
    IsOver (Refused k) = ⊥
    IsOver OutOfSteps = ⊥
    IsOver OutOfRoom = ⊥

    -- the last closure leads to an answer
    closed_more : (xs : List Closure) (p : ℕ) (c : List ℕ) (s : M.Store) (e : End M.Store) (l : List Closure) → xs ≡ (p, c) ∷ l
        → suc (length l) ≡ e.made → e.store ≡ s → Trace s l → Ready M Part s p c → (Memᴰ {A = Closure} (p, c) l → ⊥)
        → (e.answer ≡ Noncircular → ⊥) → Closed e xs
    closed_more xs p c s e l q k v z r n a = record {
      count = ap length q ∙ k;
      once = subst Distinct (sym q) (n, z.once);
      ready = λ x m.
          subst (λ u. Ready M Part u x.0 x.1) (sym v)
          (at_cons (λ (y : Closure). Ready M Part s y.0 y.1) r (z.ready x) (subst (Memᴰ x) q m));
      over = λ b. absurd (a b);
    }

    closed_last : (xs : List Closure) {P : Plan M.Store} {s : M.Store} {m : ℕ} {e : End M.Store} → Last M L R P s m e → Log xs P s m
        → Closed e xs
    unfolding closed closing
    closed_last xs (done {s = s}) i = record {
      count = ap length i.whole ∙ i.count;
      once = subst Distinct (sym i.whole) i.trace.once;
      ready = λ x m. i.trace.ready x (subst (Memᴰ x) i.whole m);
      over = λ b. subst (Complete s) (sym i.whole) i.logged;
    }
    closed_last xs (spent {s = s} {m = m} h) i =
        let b : L ≤ length i.log = omega (arith, i.count) in
        let q : xs ≡ i.log = i.whole ∙ (rw (le-leb L (length i.log) b) refl) in
        record {
          count = ap length q ∙ i.count;
          once = subst Distinct (sym q) i.trace.once;
          ready = λ x m. i.trace.ready x (subst (Memᴰ x) q m);
          over = λ b. absurd (subst IsOver (sym b) tt);
        }
    closed_last xs (circled {n = n} {p = p} {c = c} {f = f} {s = s} {m = m} h j) i =
        let b : length i.log < L = omega (arith, i.count) in
        closed_more xs p c s _ i.log (i.whole ∙ (rw (lt-leb L (length i.log) b, j) refl)) (ap suc i.count) refl i.trace
        i.logged.0 i.logged.1 (λ a. subst IsOver (sym a) tt)
    closed_last xs (packed {n = n} {p = p} {c = c} {f = f} {s = s} {m = m} t h j r) i =
        let b : length i.log < L = omega (arith, i.count) in
        closed_more xs p c s _ i.log (i.whole ∙ (rw (lt-leb L (length i.log) b, j, le-leb R (size M s) r) refl)) (ap suc i.count) refl
        i.trace i.logged.0 i.logged.1 (λ a. subst IsOver (sym a) tt)

    pub any_closed : (P : Plan M.Store) → Logged R P M.start []
        → Closed (run M L R P M.start 0) (closed M L R P M.start [])
    any_closed P h =
        let xs = closed M L R P M.start [] in
        let b : size M M.start ≤ R = omega (arith, ap length M.none) in
        let z = point M L R (Log xs) (keeps_log xs) P M.start 0 (omega arith) b (log_start P h) in
        closed_last xs z.last z.holds
