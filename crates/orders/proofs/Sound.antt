-- What the end of any run tells, in any lawful mode, whatever a plan chooses. Assumes nothing.
use mathlib.Core.Path.{◌≡◌, refl, ap, ◌∙◌, subst}
use mathlib.Core.List.{List}
use Prim.Native.Nat.{ℕ, suc, ◌<◌, ◌≤◌}
use native.Mathlib.Omega.{arith}
use lib.ListN.{length}
use Rattle.rules.specs.declared.Answer.{Answer}
use Rattle.rules.specs.declared.Answer.TheVariants.{Noncircular, Circular, Refused, OutOfSteps, OutOfRoom}
use Rattle.rules.specs.declared.Entry.{Entry}
use Rattle.rules.specs.Passes.{System, entry, seven, no_root}
use Rattle.orders.specs.Stored.{Made, Root, Different}
use Rattle.orders.specs.Modes.{Judged, round, fresh, new_entry, Mode, Covered, Shown, circle, added, Lawful}
use Rattle.orders.specs.Plans.{Plan, next, End, ends, run}
use Rattle.orders.proofs.Points.{size, Rest, Goes, Last, over, spent, circled, packed, point}
use Rattle.orders.proofs.Kept.{in_slots, slot_graphs, made_new, Ready, Kept, kept_start, went}
use Rattle.orders.proofs.Turns.{Always}

module _ {W : System} (M : Mode W) (Part : ℕ → Type 0) where
  -- one entry more is made of these, and it is not covered
  pub record Extra (s : M.Store) : Type 0 where
    pub extra : Entry
    pub made : Made W Part (M.entries s) (size M s) extra
    pub new : Covered M s extra.symbol extra.graph → ⊥

  root_shown : (Sound : M.Store → Type 0) (p : ℕ) (c : List ℕ) (s : M.Store) → Ready M Part s p c → Shown M Sound p c s round
      → Root W Part (M.entries s) p (seven c)
  root_shown Sound p c s r (circle h) =
      record {
        kids = in_slots W Part (M.entries s) (size M s) p c r.part r.fits;
        round = ap (W.circle p) (slot_graphs W Part (M.entries s) (size M s) p c r.fits) ∙ h;
      }

  extra_made : (Sound : M.Store → Type 0) (p : ℕ) (c : List ℕ) (s t : M.Store) → Ready M Part s p c → Shown M Sound p c s (fresh t)
      → Extra s
  extra_made Sound p c s t r (added calm new sound later covered) =
      record {
        extra = new_entry W p c (M.entries s);
        made = made_new W Part (M.entries s) p c r.part r.fits calm;
        new = new;
      }

  -- what the answers tell for the limit L and the room R, and Q where the run is over
  module _ (L R : ℕ) (Q : M.Store → Type 0) where
    abbrev pub Tells : M.Store → List ℕ → ℕ → Answer → Type 0
    Tells s root m Noncircular = Q s × (root ≡ no_root)
    Tells s root m (Circular p) = Root W Part (M.entries s) p root
    Tells s root m (Refused k) = ⊥
    Tells s root m OutOfSteps = (m ≡ L) × (root ≡ no_root)
    Tells s root m OutOfRoom = (size M s ≡ R) × Extra s × (root ≡ no_root)

    pub record Told (e : End M.Store) : Type 0 where
      pub made : (k : ℕ) → k < size M e.store → Made W Part (M.entries e.store) k (entry (M.entries e.store) k)
      pub different : Different (M.entries e.store)
      pub entries : size M e.store ≤ R
      pub closures : e.made ≤ L
      pub tells : Tells e.store e.root e.made e.answer

module _ {W : System} (M : Mode W) (laws : Lawful M) (Part : ℕ → Type 0) (L R : ℕ) (Q : M.Store → Type 0) where
  abbrev Safe : Plan M.Store → M.Store → ℕ → Type 0
  Safe P s m = Kept M laws Part s × Always M laws Part R Q P s

  keeps_safe : (n p : ℕ) (c : List ℕ) (f : Rest M) (s t : M.Store) (m : ℕ) → Safe (next n p c f) s m → m < L → Goes M p c s t
      → size M t ≤ R → Safe (f t) t (suc m)
  keeps_safe n p c f s t m i l g k =
      let w = went M laws Part p c s t i.0 i.1.0 g in (w.kept, i.1.1 t (record { kept = w.kept; room = k }) g)

  shown : (p : ℕ) (c : List ℕ) (s : M.Store) → Kept M laws Part s → (j : Judged M.Store) → M.judge p c s ≡ j
      → Shown M laws.Sound p c s j
  shown p c s k j e = subst (Shown M laws.Sound p c s) e (laws.judges p c s k.sound)

  told : (a : Answer) (root : List ℕ) (s : M.Store) (m n : ℕ) → Kept M laws Part s → size M s ≤ R → m ≤ L
      → Tells M Part L R Q s root m a → Told M Part L R Q (ends a root s m n)
  told a root s m n k r l z = record { made = k.made; different = laws.differ s k.sound; entries = r; closures = l; tells = z }

  told_last : {P : Plan M.Store} {s : M.Store} {m : ℕ} {e : End M.Store} → Last M L R P s m e → Safe P s m → m ≤ L → size M s ≤ R
      → Told M Part L R Q e
  told_last (over {n = n} {s = s} {m = m}) i l k = told Noncircular no_root s m n i.0 k l (i.1, refl)
  told_last (spent {n = n} {s = s} {m = m} x) i l k = told OutOfSteps no_root s m n i.0 k l (omega arith, refl)
  told_last (circled {n = n} {p = p} {c = c} {s = s} {m = m} x y) i l k =
      told (Circular p) (seven c) s (suc m) n i.0 k x
      (root_shown M Part laws.Sound p c s i.1.0 (shown p c s i.0 round y))
  told_last (packed {n = n} {p = p} {c = c} {s = s} {m = m} t x y z) i l k =
      told OutOfRoom no_root s (suc m) n i.0 k x
      (omega arith, extra_made M Part laws.Sound p c s t i.1.0 (shown p c s i.0 (fresh t) y), refl)

  pub any_run_told : (P : Plan M.Store) → Always M laws Part R Q P M.start → Told M Part L R Q (run M L R P M.start 0)
  any_run_told P a =
      let b : size M M.start ≤ R = omega (arith, ap length M.none) in
      let z = point M L R Safe keeps_safe P M.start 0 (omega arith) b (kept_start M laws Part, a) in
      told_last z.last z.holds z.closures z.entries
