-- The rules' way to store is a lawful mode. Assumes nothing.
use mathlib.Core.Path.{◌≡◌, refl, sym, ap, ◌∙◌}
use mathlib.Core.Bool.{Bool, true, false, ◌||◌, true≢false, false≢true}
use mathlib.Core.List.{List, [], ◌∷◌, ◌++◌}
use Prim.Native.Nat.{ℕ, zero, suc, ◌<◌}
use native.Mathlib.Omega.{arith}
use native.Mathlib.Decide.{dec_lt}
use lib.Dec.{eqb}
use lib.ListN.{length, length-append}
use lib.Seq.{get_or-append_seam}
use Rattle.numbers.specs.Lists.{both}
use Rattle.numbers.proofs.Decides.{Decides, refuted, eq_decides, both_decides}
use Rattle.rules.specs.declared.Entry.{Entry}
use Rattle.rules.specs.Passes.{System, no_entry, entry, graphs, known}
use Rattle.orders.specs.Stored.{Different, PairStored}
use Rattle.orders.specs.Modes.{new_entry, Covered, Later, Shown, circle, settled, added, Lawful}
use Rattle.orders.specs.Plain.{judged, judge, plain}
use Rattle.orders.proofs.Combinations.{entry_stays}

-- ---- step 4
alike : (a g : ℕ) (e : Entry) → Decides (both (eqb e.symbol a) (eqb e.graph g)) ((e.symbol ≡ a) × (e.graph ≡ g))
alike a g e = both_decides (eq_decides e.symbol a) (eq_decides e.graph g)

pub known_holds : (a g : ℕ) (es : List Entry) → known a g es ≡ true → PairStored es a g
unfolding known
known_holds a g [] h = absurd (false≢true h)
known_holds a g (e ∷ es) h = go (both (eqb e.symbol a) (eqb e.graph g)) refl h (known_holds a g es)
  where
    go : (b : Bool) → both (eqb e.symbol a) (eqb e.graph g) ≡ b → (b || known a g es) ≡ true
        → (known a g es ≡ true → PairStored es a g) → PairStored (e ∷ es) a g
    go true q h ih =
        let r = (alike a g e).so q in
        record { number = 0; among = omega arith; symbol = r.0; graph = r.1 }
    go false q h ih =
        let r = ih h in
        record { number = suc r.number; among = omega (arith, r.among); symbol = r.symbol; graph = r.graph }

pub holds_known : (a g : ℕ) (es : List Entry) → PairStored es a g → known a g es ≡ true
unfolding known
holds_known a g [] h = absurd (omega (arith, h.among))
holds_known a g (e ∷ es) h =
    go h.number h.among h.symbol h.graph (both (eqb e.symbol a) (eqb e.graph g)) refl (holds_known a g es)
  where
    go : (i : ℕ) → i < suc (length es) → (entry (e ∷ es) i).symbol ≡ a → (entry (e ∷ es) i).graph ≡ g
        → (b : Bool) → both (eqb e.symbol a) (eqb e.graph g) ≡ b → (PairStored es a g → known a g es ≡ true) → (b || known a g es) ≡ true
    go i l p q true x ih = refl
    go zero l p q false x ih = absurd (refuted (alike a g e) x (p, q))
    go (suc i) l p q false x ih = ih (record { number = i; among = omega arith; symbol = p; graph = q })

-- ---- one entry more
pub holds_more : (es more : List Entry) (a g : ℕ) → PairStored es a g → PairStored (es ++ more) a g
holds_more es more a g h =
    let e = entry_stays es more h.number h.among in
    record {
      number = h.number;
      among = omega (arith, h.among, length-append es more);
      symbol = ap (λ (x : Entry). x.symbol) e ∙ h.symbol;
      graph = ap (λ (x : Entry). x.graph) e ∙ h.graph;
    }

holds_new : (es : List Entry) (e : Entry) → PairStored (es ++ (e ∷ [])) e.symbol e.graph
holds_new es e =
    let q = get_or-append_seam es e [] no_entry in
    record {
      number = length es;
      among = omega (arith, length-append es (e ∷ []));
      symbol = ap (λ (x : Entry). x.symbol) q;
      graph = ap (λ (x : Entry). x.graph) q;
    }

different_more : (es : List Entry) (e : Entry) → Different es → (PairStored es e.symbol e.graph → ⊥) → Different (es ++ (e ∷ []))
different_more es e d h i j l m p q = go (dec_lt i (length es)) (dec_lt j (length es))
  where
    new : entry (es ++ (e ∷ [])) (length es) ≡ e
    new = get_or-append_seam es e [] no_entry

    end : (k : ℕ) → k < length (es ++ (e ∷ [])) → (k < length es → ⊥) → k ≡ length es
    end k v n = omega (arith, length-append es (e ∷ []))

    -- an earlier entry is not like the new one
    unlike : (k n : ℕ) → k < length es → n ≡ length es → (entry (es ++ (e ∷ [])) k).symbol ≡ (entry (es ++ (e ∷ [])) n).symbol
        → (entry (es ++ (e ∷ [])) k).graph ≡ (entry (es ++ (e ∷ [])) n).graph → ⊥
    unlike k n v w x y =
        h (record {
          number = k;
          among = v;
          symbol = rw (entry_stays es (e ∷ []) k v, w, new) at x;
          graph = rw (entry_stays es (e ∷ []) k v, w, new) at y;
        })

    go : Dec (i < length es) → Dec (j < length es) → i ≡ j
    go (yes a) (yes b) =
        d i j a b (rw (entry_stays es (e ∷ []) i a, entry_stays es (e ∷ []) j b) at p)
        (rw (entry_stays es (e ∷ []) i a, entry_stays es (e ∷ []) j b) at q)
    go (yes a) (no b) = absurd (unlike i j a (end j m b) p q)
    go (no a) (yes b) = absurd (unlike j i b (end i l a) (sym p) (sym q))
    go (no a) (no b) = end i l a ∙ sym (end j m b)

-- ---- the mode
module _ (W : System) where
  pub holds_covered : (es : List Entry) (a g : ℕ) → PairStored es a g → Covered (plain W) es a g
  holds_covered es a g h = record { number = h.number; among = (h.among, tt); symbol = h.symbol; over = h.graph }

  pub covered_holds : (es : List Entry) (a g : ℕ) → Covered (plain W) es a g → PairStored es a g
  covered_holds es a g h = record { number = h.number; among = h.among.0; symbol = h.symbol; graph = h.over }

  pub shown : (p : ℕ) (c : List ℕ) (es : List Entry) → Different es → Shown (plain W) Different p c es (judge W p c es)
  unfolding judged
  shown p c es d = go (W.circle p (graphs es c)) refl (known (W.left p) g es) refl
    where
      g : ℕ
      g = W.graph p (graphs es c)

      e : Entry
      e = new_entry W p c es

      later : Later (plain W) es (es ++ (e ∷ []))
      later =
          record {
            more = e ∷ [];
            stays = refl;
            retired = λ i l h. h;
            covered = λ a b h. holds_covered (es ++ (e ∷ [])) a b (holds_more es (e ∷ []) a b (covered_holds es a b h));
          }

      go : (a : Bool) → W.circle p (graphs es c) ≡ a → (b : Bool) → known (W.left p) g es ≡ b
          → Shown (plain W) Different p c es (judged a b (es ++ (e ∷ [])))
      go true x b y = circle x
      go false x true y = settled (record { calm = x; covered = holds_covered es (W.left p) g (known_holds (W.left p) g es y) })
      go false x false y =
          let new : PairStored es (W.left p) g → ⊥ = λ h. true≢false (sym (holds_known (W.left p) g es h) ∙ y) in
          added x (λ h. new (covered_holds es (W.left p) g h)) (different_more es e d new) later
          (holds_covered (es ++ (e ∷ [])) (W.left p) g (holds_new es e))

  abbrev pub plain_lawful : Lawful (plain W)
  plain_lawful = record {
    Sound = Different;
    begins = λ i j l m p q. absurd (omega arith);
    judges = shown;
    differ = λ s d. d;
  }
