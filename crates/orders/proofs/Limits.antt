-- Two limits, two rooms: in any mode, whatever a plan chooses. Assumes nothing.
use mathlib.Core.Path.{◌≡◌, refl, sym, ap, ◌∙◌, subst}
use mathlib.Core.List.{List, [], ◌∷◌, ◌++◌, append-nil, append_assoc}
use Prim.Native.Nat.{ℕ, suc, ◌<◌, ◌≤◌}
use native.Mathlib.Omega.{arith}
use native.Mathlib.Decide.{dec_lt}
use lib.ListN.{length, length-append}
use Rattle.rules.specs.declared.Answer.{Answer}
use Rattle.rules.specs.declared.Answer.TheVariants.{Noncircular, Circular, Refused, OutOfSteps, OutOfRoom}
use Rattle.rules.specs.declared.Entry.{Entry}
use Rattle.rules.specs.Passes.{System}
use Rattle.orders.specs.Answers.{StepsCompared, RoomCompared, OneStored, Verdict}
use Rattle.orders.specs.Modes.{Judged, round, needless, fresh, new_entry, Mode}
use Rattle.orders.specs.Plans.{Plan, end, next, End, run, outcome_of}
use Rattle.orders.proofs.Points.{size, Rest, longer, run_spent, run_circled, run_needless, run_packed, run_fresh, run_over, Goes, passed, stored, Last, over, spent, circled, packed, Point, point}

abbrev IsSteps : Answer → Type 0
IsSteps Noncircular = ⊥
IsSteps (Circular p) = ⊥
IsSteps (Refused k) = ⊥
IsSteps OutOfSteps = Unit {0}
IsSteps OutOfRoom = ⊥

abbrev IsRoom : Answer → Type 0
IsRoom Noncircular = ⊥
IsRoom (Circular p) = ⊥
IsRoom (Refused k) = ⊥
IsRoom OutOfSteps = ⊥
IsRoom OutOfRoom = Unit {0}

module _ {W : System} (M : Mode W) where
  -- ---- what is stored stays
  abbrev pub Stays : M.Store → M.Store → Type 0
  Stays s t = (more : List Entry) × (M.entries t ≡ M.entries s ++ more)

  pub stays_same : (s t : M.Store) → t ≡ s → Stays s t
  stays_same s t e = ([], ap M.entries e ∙ sym (append-nil (M.entries s)))

  pub stays_then : (s t u : M.Store) → Stays s t → Stays t u → Stays s u
  stays_then s t u a b =
      (a.0 ++ b.0, b.1 ∙ ap (λ es. es ++ b.0) a.1 ∙ append_assoc (M.entries s) a.0 b.0)

  pub stays_longer : (s t : M.Store) → Stays s t → size M s ≤ size M t
  stays_longer s t a = omega (arith, ap length a.1, length-append (M.entries s) a.0)

  goes_stays : (p : ℕ) (c : List ℕ) (s t : M.Store) → Goes M p c s t → Stays s t
  goes_stays p c s t (passed e) = stays_same s s refl
  goes_stays p c s t (stored e) = (new_entry W p c (M.entries s) ∷ [], M.adds p c s t e)

  -- the last point, after what is stored at the start
  last_point : (L R : ℕ) (P : Plan M.Store) (s : M.Store) (m : ℕ) → m ≤ L → size M s ≤ R
      → Point M L R (λ Q t k. Stays s t) P s m (run M L R P s m)
  last_point L R P s m h k =
      point M L R (λ Q t i. Stays s t) (λ n p c f t u i a b g d. stays_then s t u a (goes_stays p c t u g)) P s m h k
      (stays_same s s refl)

  pub record Ended (L R : ℕ) (s : M.Store) (m : ℕ) (e : End M.Store) : Type 0 where
    pub stays : Stays s e.store
    pub counts : m ≤ e.made
    pub closures : e.made ≤ L
    pub entries : size M e.store ≤ R

  pub ended : (L R : ℕ) (P : Plan M.Store) (s : M.Store) (m : ℕ) → m ≤ L → size M s ≤ R → Ended L R s m (run M L R P s m)
  ended L R P s m h k = let z = last_point L R P s m h k in go z.last z.holds z.counts z.closures z.entries
    where
      go : {Q : Plan M.Store} {t : M.Store} {i : ℕ} {e : End M.Store} → Last M L R Q t i e → Stays s t → m ≤ i → i ≤ L
          → size M t ≤ R → Ended L R s m e
      go over a b c d = record { stays = a; counts = b; closures = c; entries = d }
      go (spent x) a b c d = record { stays = a; counts = b; closures = c; entries = d }
      go (circled x y) a b c d = record { stays = a; counts = omega arith; closures = x; entries = d }
      go (packed t x y z) a b c d = record { stays = a; counts = omega arith; closures = x; entries = d }

  -- a try below the limit makes a closure
  next_made : (L R n p : ℕ) (c : List ℕ) (f : Rest M) (s : M.Store) (m : ℕ) → m < L → size M s ≤ R
      → m < (run M L R (next n p c f) s m).made
  next_made L R n p c f s m h k = go (M.judge p c s) refl (dec_lt (size M s) R)
    where
      go : (j : Judged M.Store) → M.judge p c s ≡ j → Dec (size M s < R) → m < (run M L R (next n p c f) s m).made
      go round e d = rw (run_circled M L R n p c f s m h e) (omega arith)
      go needless e d = rw (run_needless M L R n p c f s m h e) (ended L R (f s) s (suc m) h k).counts
      go (fresh t) e (yes d) =
          rw (run_fresh M L R n p c f s m t h e d) (ended L R (f t) t (suc m) h (omega (arith, longer M p c s t e))).counts
      go (fresh t) e (no d) = rw (run_packed M L R n p c f s m t h e (omega arith)) (omega arith)

  -- a run that is at its limit changes nothing
  at_limit : (L R : ℕ) (P : Plan M.Store) (s : M.Store) → ((run M L R P s L).store ≡ s) × ((run M L R P s L).made ≡ L)
  at_limit L R (end n) s =
      let e = run_over M L R n s L in (ap (λ (x : End M.Store). x.store) e, ap (λ (x : End M.Store). x.made) e)
  at_limit L R (next n p c f) s =
      let e = run_spent M L R n p c f s L (omega arith) in
      (ap (λ (x : End M.Store). x.store) e, ap (λ (x : End M.Store). x.made) e)

  made_last : {L R : ℕ} {Q : Plan M.Store} {t : M.Store} {i : ℕ} {e : End M.Store} → Last M L R Q t i e → i ≤ e.made
  made_last over = omega arith
  made_last (spent x) = omega arith
  made_last (circled x y) = omega arith
  made_last (packed t x y v) = omega arith

  -- ---- runs of one plan from the start
  module _ (P : Plan M.Store) where
    abbrev pub runs : ℕ → ℕ → End M.Store
    runs L R = run M L R P M.start 0

    from_start : (L R : ℕ) → Point M L R (λ Q t k. Stays M.start t) P M.start 0 (runs L R)
    from_start L R = last_point L R P M.start 0 (omega arith) (omega (arith, ap length M.none))

    -- ---- a greater limit
    module _ (L K R : ℕ) (lt : L < K) where
      same_steps : (e e' : End M.Store) → (e.answer ≡ OutOfSteps → ⊥) → e.made ≤ L → e' ≡ e
          → StepsCompared L (outcome_of M e) (outcome_of M e')
      same_steps e e' x h q =
          record {
            exactly = (λ a. absurd (x a), λ a. absurd (omega (arith, ap (λ (y : End M.Store). y.made) q)));
            else = λ a. ap (outcome_of M) q;
            stays = stays_same e.store e'.store (ap (λ (y : End M.Store). y.store) q);
          }

      steps_at : {Q : Plan M.Store} {t : M.Store} {i : ℕ} {e : End M.Store} (e' : End M.Store) → Last M L R Q t i e
          → i ≤ L → size M t ≤ R → e' ≡ run M K R Q t i → StepsCompared L (outcome_of M e) (outcome_of M e')
      steps_at e' (over {n = n} {s = s} {m = m}) h k q =
          same_steps _ e' (λ a. subst IsSteps (sym a) tt) h (q ∙ run_over M K R n s m)
      steps_at e' (spent {n = n} {p = p} {c = c} {f = f} {s = s} {m = m} x) h k q =
          let more : L < (run M K R (next n p c f) s m).made = omega (arith, next_made K R n p c f s m (omega arith) k) in
          let a = (ended K R (next n p c f) s m (omega arith) k).stays in
          record {
            exactly = (λ b. subst (λ (v : End M.Store). L < v.made) (sym q) more, λ b. refl);
            else = λ b. absurd (b refl);
            stays = subst (λ (v : End M.Store). Stays s v.store) (sym q) a;
          }
      steps_at e' (circled {n = n} {p = p} {c = c} {f = f} {s = s} {m = m} x y) h k q =
          same_steps _ e' (λ a. subst IsSteps (sym a) tt) x (q ∙ run_circled M K R n p c f s m (omega arith) y)
      steps_at e' (packed {n = n} {p = p} {c = c} {f = f} {s = s} {m = m} t x y z) h k q =
          same_steps _ e' (λ a. subst IsSteps (sym a) tt) x (q ∙ run_packed M K R n p c f s m t (omega arith) y z)

      pub any_steps_exactly : StepsCompared L (outcome_of M (runs L R)) (outcome_of M (runs K R))
      any_steps_exactly =
          let z = from_start L R in
          steps_at (runs K R) z.last z.closures z.entries (z.comes K R (omega (arith, z.closures)) z.entries)

    -- ---- more room, with a limit from the closures made up to L
    module _ (L R S l : ℕ) (lt : R < S) (up : l ≤ L) where
      same_room : (e e' : End M.Store) → (e.answer ≡ OutOfRoom → ⊥) → size M e.store ≤ R → e' ≡ e
          → RoomCompared R (outcome_of M e) (outcome_of M e')
      same_room e e' x h q =
          record {
            exactly = (λ a. absurd (x a), λ a. absurd (omega (arith, ap (λ (y : End M.Store). size M y.store) q)));
            else = λ a. ap (outcome_of M) q;
            stays = stays_same e.store e'.store (ap (λ (y : End M.Store). y.store) q);
          }

      room_at : {Q : Plan M.Store} {t : M.Store} {i : ℕ} {e : End M.Store} (e' : End M.Store) → Last M L R Q t i e
          → e.made ≤ l → size M t ≤ R → e' ≡ run M l S Q t i → RoomCompared R (outcome_of M e) (outcome_of M e')
      room_at e' (over {n = n} {s = s} {m = m}) h k q =
          same_room _ e' (λ a. subst IsRoom (sym a) tt) k (q ∙ run_over M l S n s m)
      room_at e' (spent {n = n} {p = p} {c = c} {f = f} {s = s} {m = m} x) h k q =
          same_room _ e' (λ a. subst IsRoom (sym a) tt) k (q ∙ run_spent M l S n p c f s m (omega arith))
      room_at e' (circled {n = n} {p = p} {c = c} {f = f} {s = s} {m = m} x y) h k q =
          same_room _ e' (λ a. subst IsRoom (sym a) tt) k (q ∙ run_circled M l S n p c f s m h y)
      room_at e' (packed {n = n} {p = p} {c = c} {f = f} {s = s} {m = m} t x y z) h k q =
          let one = longer M p c s t y in
          let a = (ended l S (f t) t (suc m) h (omega (arith, one))).stays in
          let w = q ∙ run_fresh M l S n p c f s m t h y (omega arith) in
          let u = (run M l S (f t) t (suc m)).store in
          let more : R < size M u = omega (arith, one, stays_longer t u a) in
          record {
            exactly = (λ b. subst (λ (v : End M.Store). R < size M v.store) (sym w) more, λ b. refl);
            else = λ b. absurd (b refl);
            stays = subst (λ (v : End M.Store). Stays s v.store) (sym w) (stays_then s t u (goes_stays p c s t (stored y)) a);
          }

      pub any_room_exactly : (runs L R).made ≤ l → RoomCompared R (outcome_of M (runs L R)) (outcome_of M (runs l S))
      any_room_exactly h =
          let z = from_start L R in
          room_at (runs l S) z.last h z.entries (z.comes l S (omega (arith, made_last z.last)) (omega (arith, z.entries)))

    -- with more room, and no more closures than were made, one entry more is stored
    pub any_one_more : (L R S : ℕ) → R < S → (runs L R).answer ≡ OutOfRoom
        → OneStored (outcome_of M (runs L R)) (outcome_of M (runs (runs L R).made S))
    any_one_more L R S lt a =
        let z = from_start L R in
        go z.last a z.entries (λ l h. z.comes l S h (omega (arith, z.entries)))
      where
        go : {Q : Plan M.Store} {t : M.Store} {i : ℕ} {e : End M.Store} → Last M L R Q t i e → e.answer ≡ OutOfRoom
            → size M t ≤ R → ((l : ℕ) → i ≤ l → runs l S ≡ run M l S Q t i) → OneStored (outcome_of M e) (outcome_of M (runs e.made S))
        go over b k q = absurd (subst IsRoom (sym b) tt)
        go (spent x) b k q = absurd (subst IsRoom (sym b) tt)
        go (circled x y) b k q = absurd (subst IsRoom (sym b) tt)
        go (packed {n = n} {p = p} {c = c} {f = f} {s = s} {m = m} t x y v) b k q =
            let w = q (suc m) (omega arith) ∙ run_fresh M (suc m) S n p c f s m t (omega arith) y (omega arith) in
            let u = at_limit (suc m) S (f t) t in
            record {
              next = new_entry W p c (M.entries s);
              entries = ap (λ (e : End M.Store). M.entries e.store) w ∙ ap M.entries u.0 ∙ M.adds p c s t y;
              closures = ap (λ (e : End M.Store). e.made) w ∙ u.1;
            }

    -- a verdict asks for no more than the closures made and the entries stored
    pub any_verdict_stands : (L R l r : ℕ) → Verdict (runs L R).answer → (runs L R).made ≤ l → size M (runs L R).store ≤ r
        → runs l r ≡ runs L R
    any_verdict_stands L R l r v = let z = from_start L R in go z.last v (λ h k. z.comes l r h k)
      where
        go : {Q : Plan M.Store} {t : M.Store} {i : ℕ} {e : End M.Store} → Last M L R Q t i e → Verdict e.answer
            → (i ≤ l → size M t ≤ r → runs l r ≡ run M l r Q t i) → e.made ≤ l → size M e.store ≤ r → runs l r ≡ e
        go (over {n = n} {s = s} {m = m}) b q h k = q h k ∙ run_over M l r n s m
        go (spent x) b q h k = absurd b
        go (circled {n = n} {p = p} {c = c} {f = f} {s = s} {m = m} x y) b q h k =
            q (omega arith) k ∙ run_circled M l r n p c f s m h y
        go (packed t x y w) b q h k = absurd b
