-- What any sequence of tries keeps: every entry is made by its production over earlier ones, and what was tried is settled.
-- Assumes nothing.
use mathlib.Core.Path.{◌≡◌, refl, sym, ap, ◌∙◌, subst}
use mathlib.Core.Bool.{false}
use mathlib.Core.List.{List, [], ◌∷◌, ◌++◌}
use Prim.Native.Nat.{ℕ, ◌≤◌, ◌<◌}
use native.Mathlib.Omega.{arith}
use native.Mathlib.Decide.{dec_lt}
use lib.ListN.{length, length-append}
use lib.Seq.{get_or-append_seam}
use Rattle.rules.specs.declared.Entry.{Entry}
use Rattle.rules.specs.Passes.{System, no_entry, entry, graphs, seven, counting}
use Rattle.orders.specs.Stored.{FitsIn, Combination, kid_graphs, Slots, Made}
use Rattle.orders.specs.Modes.{needless, fresh, new_entry, Mode, Covered, Later, Settled, Shown, settled, added, Lawful}
use Rattle.orders.proofs.Combinations.{entry_stays, fits_map, fits_more, graphs_stay, counting_seven}
use Rattle.orders.proofs.Points.{size, Goes, passed, stored}
use Rattle.orders.proofs.Limits.{stays_same, stays_then, stays_longer}

-- ---- how an entry is made
module _ (W : System) (Part : ℕ → Type 0) where
  pub kids_more : (es more : List Entry) (n m p : ℕ) (slots : List ℕ) → n ≤ length es → n ≤ m → Slots W Part es n p slots
      → Slots W Part (es ++ more) m p slots
  kids_more es more n m p slots l g k =
      record {
        part = k.part;
        rest = k.rest;
        fits =
            fits_map (es ++ more) (λ i. i < n) (λ i. i < m) (λ i h. omega arith) (counting (W.rights p) slots) (W.rights p)
            (fits_more es more (λ i. i < n) (λ i h. omega arith) (counting (W.rights p) slots) (W.rights p) k.fits);
      }

  -- what a production with its slots stands for does not change where entries are added
  pub kid_graphs_stay : (es more : List Entry) (n p : ℕ) (slots : List ℕ) → n ≤ length es → Slots W Part es n p slots
      → kid_graphs W (es ++ more) p slots ≡ kid_graphs W es p slots
  kid_graphs_stay es more n p slots l k =
      graphs_stay es more (λ i. i < n) (λ i h. omega arith) (counting (W.rights p) slots) (W.rights p) k.fits

  pub made_more : (es more : List Entry) (k : ℕ) (e : Entry) → k ≤ length es → Made W Part es k e → Made W Part (es ++ more) k e
  made_more es more k e l m =
      let g = kid_graphs_stay es more k e.production e.kids l m.kids in
      record {
        kids = kids_more es more k k e.production e.kids l (omega arith) m.kids;
        symbol = m.symbol;
        graph = m.graph ∙ ap (W.graph e.production) (sym g);
        calm = ap (W.circle e.production) g ∙ m.calm;
      }

  -- a combination in seven slots
  pub in_slots : (es : List Entry) (n p : ℕ) (c : List ℕ) → Part p → Combination es n c (W.rights p) → Slots W Part es n p (seven c)
  in_slots es n p c h f =
      let e = counting_seven W es (λ i. i < n) p c f in
      record { part = h; rest = ap seven (sym e); fits = subst (λ d. Combination es n d (W.rights p)) (sym e) f }

  pub slot_graphs : (es : List Entry) (n p : ℕ) (c : List ℕ) → Combination es n c (W.rights p) → kid_graphs W es p (seven c) ≡ graphs es c
  slot_graphs es n p c f = ap (graphs es) (counting_seven W es (λ i. i < n) p c f)

  pub made_new : (es : List Entry) (p : ℕ) (c : List ℕ) → Part p → Combination es (length es) c (W.rights p)
      → W.circle p (graphs es c) ≡ false → Made W Part es (length es) (new_entry W p c es)
  made_new es p c h f calm =
      let g = slot_graphs es (length es) p c f in
      record {
        kids = in_slots es (length es) p c h f;
        symbol = refl;
        graph = ap (W.graph p) (sym g);
        calm = ap (W.circle p) g ∙ calm;
      }

-- ---- later stores
module _ {W : System} (M : Mode W) where
  pub later_none : (s : M.Store) → Later M s s
  later_none s =
      let w = stays_same M s s refl in
      record { more = w.0; stays = w.1; retired = λ i l h. h; covered = λ a g h. h }

  pub later_longer : (s t : M.Store) → Later M s t → size M s ≤ size M t
  later_longer s t l = stays_longer M s t (l.more, l.stays)

  pub later_then : (s t u : M.Store) → Later M s t → Later M t u → Later M s u
  later_then s t u f g =
      let w = stays_then M s t u (f.more, f.stays) (g.more, g.stays) in
      record {
        more = w.0;
        stays = w.1;
        retired = λ i l h. f.retired i l (g.retired i (omega (arith, later_longer s t f)) h);
        covered = λ a b h. g.covered a b (f.covered a b h);
      }

  pub later_graphs : (s t : M.Store) → Later M s t → (p : ℕ) (c : List ℕ) → Combination (M.entries s) (size M s) c (W.rights p)
      → graphs (M.entries t) c ≡ graphs (M.entries s) c
  later_graphs s t l p c f =
      ap (λ es. graphs es c) l.stays ∙ graphs_stay (M.entries s) l.more (λ i. i < size M s) (λ i h. h) c (W.rights p) f

  pub later_combination : (s t : M.Store) → Later M s t → (c bs : List ℕ) → Combination (M.entries s) (size M s) c bs
      → Combination (M.entries t) (size M t) c bs
  later_combination s t l c bs f =
      fits_map (M.entries t) (λ i. i < size M s) (λ i. i < size M t) (λ i h. omega (arith, later_longer s t l)) c bs
      (subst (λ es. FitsIn es (λ i. i < size M s) c bs) (sym l.stays)
      (fits_more (M.entries s) l.more (λ i. i < size M s) (λ i h. h) c bs f))

  pub later_settled : (s t : M.Store) → Later M s t → (p : ℕ) (c : List ℕ) → Combination (M.entries s) (size M s) c (W.rights p)
      → Settled M s p c → Settled M t p c
  later_settled s t l p c f h =
      let g = later_graphs s t l p c f in
      record {
        calm = ap (W.circle p) g ∙ h.calm;
        covered =
            subst (λ gs. Covered M t (W.left p) (W.graph p gs)) (sym g) (l.covered (W.left p) (W.graph p _) h.covered);
      }

  -- ---- any sequence of tries
  module _ (Part : ℕ → Type 0) where
    -- p may be tried over c
    pub record Ready (s : M.Store) (p : ℕ) (c : List ℕ) : Type 0 where
      pub part : Part p
      pub fits : Combination (M.entries s) (size M s) c (W.rights p)

    pub ready_later : (s t : M.Store) → Later M s t → (p : ℕ) (c : List ℕ) → Ready s p c → Ready t p c
    ready_later s t l p c r = record { part = r.part; fits = later_combination s t l c (W.rights p) r.fits }

  module _ (laws : Lawful M) (Part : ℕ → Type 0) where
    pub record Kept (s : M.Store) : Type 0 where
      pub sound : laws.Sound s
      pub made : (k : ℕ) → k < size M s → Made W Part (M.entries s) k (entry (M.entries s) k)

    pub kept_start : Kept M.start
    kept_start = record { sound = laws.begins; made = λ k h. absurd (omega (arith, ap length M.none)) }

    made_added : (s t : M.Store) (p : ℕ) (c : List ℕ) → Kept s → Ready Part s p c → W.circle p (graphs (M.entries s) c) ≡ false
        → M.entries t ≡ M.entries s ++ (new_entry W p c (M.entries s) ∷ [])
        → (k : ℕ) → k < size M t → Made W Part (M.entries t) k (entry (M.entries t) k)
    made_added s t p c h r calm e k l = subst (λ es. Made W Part es k (entry es k)) (sym e) (go (dec_lt k (length es)))
      where
        es : List Entry
        es = M.entries s

        new : Entry
        new = new_entry W p c (M.entries s)

        go : Dec (k < length es) → Made W Part (es ++ (new ∷ [])) k (entry (es ++ (new ∷ [])) k)
        go (yes m) =
            subst (Made W Part (es ++ (new ∷ [])) k) (sym (entry_stays es (new ∷ []) k m))
            (made_more W Part es (new ∷ []) k (entry es k) (omega arith) (h.made k m))
        go (no m) =
            let q : k ≡ length es = omega (arith, ap length e, length-append es (new ∷ [])) in
            subst (λ i. Made W Part (es ++ (new ∷ [])) i (entry (es ++ (new ∷ [])) i)) (sym q)
            (subst (Made W Part (es ++ (new ∷ [])) (length es)) (sym (get_or-append_seam es new [] no_entry))
            (made_more W Part es (new ∷ []) (length es) new (omega arith) (made_new W Part es p c r.part r.fits calm)))

    -- where a try goes on, all is kept, and what was tried is settled
    pub record Went (p : ℕ) (c : List ℕ) (s t : M.Store) : Type 0 where
      pub kept : Kept t
      pub later : Later M s t
      pub settled : Settled M t p c

    went_stored : (p : ℕ) (c : List ℕ) (s t : M.Store) → Kept s → Ready Part s p c → M.judge p c s ≡ fresh t
        → Shown M laws.Sound p c s (fresh t) → Went p c s t
    went_stored p c s t k r e (added calm new sound later covered) =
        let g = later_graphs s t later p c r.fits in
        record {
          kept = record { sound = sound; made = made_added s t p c k r calm (M.adds p c s t e) };
          later = later;
          settled = record {
            calm = ap (W.circle p) g ∙ calm;
            covered = subst (λ gs. Covered M t (W.left p) (W.graph p gs)) (sym g) covered;
          };
        }

    went_passed : (p : ℕ) (c : List ℕ) (s : M.Store) → Kept s → Shown M laws.Sound p c s needless → Went p c s s
    went_passed p c s k (settled h) = record { kept = k; later = later_none s; settled = h }

    pub went : (p : ℕ) (c : List ℕ) (s t : M.Store) → Kept s → Ready Part s p c → Goes M p c s t → Went p c s t
    went p c s t k r (passed e) = went_passed p c s k (subst (Shown M laws.Sound p c s) e (laws.judges p c s k.sound))
    went p c s t k r (stored e) = went_stored p c s t k r e (subst (Shown M laws.Sound p c s) e (laws.judges p c s k.sound))
