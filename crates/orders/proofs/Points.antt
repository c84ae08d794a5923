-- Whatever a plan chooses, its run comes to one last point, where it stops: the one induction over plans. Assumes nothing.
use mathlib.Core.Path.{◌≡◌, refl, ap, ◌∙◌}
use mathlib.Core.Bool.{Bool, true, false}
use mathlib.Core.List.{List, [], ◌∷◌}
use Prim.Native.Nat.{ℕ, suc, ◌<◌, ◌≤◌}
use native.Mathlib.Omega.{arith}
use lib.Dec.{leb}
use lib.ListN.{length, length-append}
use borrow.Author.Tests.{leb-true, leb-false, le-leb, lt-leb}
use Rattle.rules.specs.declared.Answer.TheVariants.{Noncircular, Circular, OutOfSteps, OutOfRoom}
use Rattle.rules.specs.Passes.{System, seven, no_root}
use Rattle.orders.specs.Modes.{Judged, round, needless, fresh, new_entry, Mode}
use Rattle.orders.specs.Plans.{Plan, end, next, End, ends, tried, run}

module _ {W : System} (M : Mode W) where
  abbrev pub size : M.Store → ℕ
  size s = length (M.entries s)

  -- what the plan says after a try
  abbrev pub Rest : Type 0
  Rest = M.Store → Plan M.Store

  pub longer : (p : ℕ) (c : List ℕ) (s t : M.Store) → M.judge p c s ≡ fresh t → size t ≡ suc (size s)
  longer p c s t e =
      ap length (M.adds p c s t e) ∙ length-append (M.entries s) (new_entry W p c (M.entries s) ∷ []) ∙ omega arith

  -- ---- one try of a run
  module _ (L R n p : ℕ) (c : List ℕ) (f : Rest) (s : M.Store) (m : ℕ) where
    pub run_spent : L ≤ m → run M L R (next n p c f) s m ≡ ends OutOfSteps no_root s m n
    unfolding run tried
    run_spent h = rw (le-leb L m h) refl

    pub run_circled : m < L → M.judge p c s ≡ round → run M L R (next n p c f) s m ≡ ends (Circular p) (seven c) s (suc m) n
    unfolding run tried
    run_circled h e = rw (lt-leb L m h, e) refl

    pub run_needless : m < L → M.judge p c s ≡ needless → run M L R (next n p c f) s m ≡ run M L R (f s) s (suc m)
    unfolding run tried
    run_needless h e = rw (lt-leb L m h, e) refl

    pub run_packed : (t : M.Store) → m < L → M.judge p c s ≡ fresh t → R ≤ size s
        → run M L R (next n p c f) s m ≡ ends OutOfRoom no_root s (suc m) n
    unfolding run tried
    run_packed t h e k = rw (lt-leb L m h, e, le-leb R (size s) k) refl

    pub run_fresh : (t : M.Store) → m < L → M.judge p c s ≡ fresh t → size s < R
        → run M L R (next n p c f) s m ≡ run M L R (f t) t (suc m)
    unfolding run tried
    run_fresh t h e k = rw (lt-leb L m h, e, lt-leb R (size s) k) refl

  pub run_over : (L R n : ℕ) (s : M.Store) (m : ℕ) → run M L R (end n) s m ≡ ends Noncircular no_root s m n
  unfolding run
  run_over L R n s m = refl

  -- the try of p over c goes on, from s to t
  pub data Goes (p : ℕ) (c : List ℕ) (s : M.Store) : M.Store → Type 0 where
    passed : M.judge p c s ≡ needless → Goes p c s s
    stored : {t : M.Store} → M.judge p c s ≡ fresh t → Goes p c s t

  module _ (L R : ℕ) where
    -- the four ways to stop: at a plan, with a store and the number of closures made, and with this end
    pub data Last : Plan M.Store → M.Store → ℕ → End M.Store → Type 0 where
      over : {n : ℕ} {s : M.Store} {m : ℕ} → Last (end n) s m (ends Noncircular no_root s m n)
      spent : {n p : ℕ} {c : List ℕ} {f : Rest} {s : M.Store} {m : ℕ}
          → L ≤ m → Last (next n p c f) s m (ends OutOfSteps no_root s m n)
      circled : {n p : ℕ} {c : List ℕ} {f : Rest} {s : M.Store} {m : ℕ}
          → m < L → M.judge p c s ≡ round → Last (next n p c f) s m (ends (Circular p) (seven c) s (suc m) n)
      packed : {n p : ℕ} {c : List ℕ} {f : Rest} {s : M.Store} {m : ℕ} (t : M.Store)
          → m < L → M.judge p c s ≡ fresh t → R ≤ size s → Last (next n p c f) s m (ends OutOfRoom no_root s (suc m) n)

    -- The point at which the run of P from s, with m closures made, stops. With any limit and room that are enough to come so far, the run
    -- comes there too.
    pub record Point (I : Plan M.Store → M.Store → ℕ → Type 0) (P : Plan M.Store) (s : M.Store) (m : ℕ) (e : End M.Store)
        : Type 0 where
      pub plan : Plan M.Store
      pub store : M.Store
      pub made : ℕ
      pub last : Last plan store made e
      pub counts : m ≤ made
      pub grows : size s ≤ size store
      pub closures : made ≤ L
      pub entries : size store ≤ R
      pub holds : I plan store made
      pub comes : (l r : ℕ) → made ≤ l → size store ≤ r → run M l r P s m ≡ run M l r plan store made

    -- what each try that goes on keeps, holds at the last point
    module _ (I : Plan M.Store → M.Store → ℕ → Type 0)
        (keeps : (n p : ℕ) (c : List ℕ) (f : Rest) (s t : M.Store) (m : ℕ)
        → I (next n p c f) s m → m < L → Goes p c s t → size t ≤ R → I (f t) t (suc m)) where
      stops_here : (P : Plan M.Store) (s : M.Store) (m : ℕ) → m ≤ L → size s ≤ R → I P s m → {e : End M.Store} → Last P s m e
          → Point I P s m e
      stops_here P s m h k i z =
          record {
            plan = P;
            store = s;
            made = m;
            last = z;
            counts = omega arith;
            grows = omega arith;
            closures = h;
            entries = k;
            holds = i;
            comes = λ l r a b. refl;
          }

      pub point : (P : Plan M.Store) (s : M.Store) (m : ℕ) → m ≤ L → size s ≤ R → I P s m → Point I P s m (run M L R P s m)
      unfolding run tried
      point (end n) s m h k i = stops_here (end n) s m h k i over
      point (next n p c f) s m h k i =
          go (leb L m) refl (M.judge p c s) refl (leb R (size s)) refl (λ t. point (f t) t (suc m))
        where
          here : {e : End M.Store} → Last (next n p c f) s m e → Point I (next n p c f) s m e
          here z = stops_here (next n p c f) s m h k i z

          on : (t : M.Store) → size s ≤ size t
              → ((l r : ℕ) → m < l → size t ≤ r → run M l r (next n p c f) s m ≡ run M l r (f t) t (suc m))
              → {e : End M.Store} → Point I (f t) t (suc m) e → Point I (next n p c f) s m e
          on t g q z =
              record {
                plan = z.plan;
                store = z.store;
                made = z.made;
                last = z.last;
                counts = omega (arith, z.counts);
                grows = omega (arith, z.grows);
                closures = z.closures;
                entries = z.entries;
                holds = z.holds;
                comes = λ l r a b. q l r (omega (arith, z.counts)) (omega (arith, z.grows)) ∙ z.comes l r a b;
              }

          go : (a : Bool) → leb L m ≡ a → (j : Judged M.Store) → M.judge p c s ≡ j → (b : Bool) → leb R (size s) ≡ b
              → ((t : M.Store) → suc m ≤ L → size t ≤ R → I (f t) t (suc m) → Point I (f t) t (suc m) (run M L R (f t) t (suc m)))
              → Point I (next n p c f) s m (tried a j b n p c s m (λ t q. run M L R (f t) t q))
          go true x j y b z ih = here (spent (leb-true L m x))
          go false x round y b z ih = here (circled (leb-false L m x) y)
          go false x needless y b z ih =
              let lt : m < L = leb-false L m x in
              on s (omega arith) (λ l r v w. run_needless l r n p c f s m v y) (ih s lt k (keeps n p c f s s m i lt (passed y) k))
          go false x (fresh t) y true z ih = here (packed t (leb-false L m x) y (leb-true R (size s) z))
          go false x (fresh t) y false z ih =
              let lt : m < L = leb-false L m x in
              let one = longer p c s t y in
              let room : size t ≤ R = omega (arith, one, leb-false R (size s) z) in
              on t (omega (arith, one)) (λ l r v w. run_fresh l r n p c f s m t v y (omega (arith, one, w)))
              (ih t lt room (keeps n p c f s t m i lt (stored y) room))
