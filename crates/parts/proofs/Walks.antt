-- Walks over the productions, each of which adds its targets to a set where its test passes: they only add, they keep to what the test
-- allows, and where one adds nothing, nothing is left to add. Assumes nothing.
use mathlib.Core.Path.{◌≡◌, refl, sym, ap, subst, ◌∙◌}
use mathlib.Core.Bool.{Bool, true, false, true≢false}
use mathlib.Core.List.Memᴰ
use mathlib.Core.List.{List, [], ◌∷◌, Memᴰ}
use mathlib.Core.Logic.{◌⊎◌, ⊎_elim}
use Prim.Native.Nat.{ℕ, zero, suc, ◌+◌, ◌≤◌, ◌<◌}
use native.Mathlib.Omega.{arith}
use Rattle.numbers.proofs.Members.{at_cons}
use Rattle.grammar.specs.declared.Production.{Production}
use Rattle.parts.specs.Sets.{Symbols, add_if, same_sets}
use Rattle.parts.specs.Rule.{walk, again, grown_out}
use Rattle.parts.proofs.Sets.{In, Within, IsSet, in_low, if_set, if_more, if_here, if_only, same_decides, same_sets_lem}
use Rattle.parts.proofs.Sizes.{size, size_full, same_or_more}

-- a production adds its targets where its test passes
abbrev pub step : (Symbols → Production → Bool) → (Production → List ℕ) → Symbols → Production → Symbols
step test targets A p = add_if (test A p) A (targets p)

module _
    (test : Symbols → Production → Bool) (targets : Production → List ℕ)
    -- what passes over a set passes over a greater one
    (mono : (A B : Symbols) (p : Production) → Within A B → test A p ≡ true → test B p ≡ true) where
  abbrev F : Symbols → Production → Symbols
  F = step test targets

  -- ---- one walk

  pub walk_set : (ps : List Production) (A : Symbols) → IsSet A → IsSet (walk F ps A)
  unfolding walk
  walk_set [] A i = i
  walk_set (p ∷ ps) A i = walk_set ps (F A p) (if_set (test A p) A (targets p) i)

  pub walk_more : (ps : List Production) (A : Symbols) → IsSet A → Within A (walk F ps A)
  unfolding walk
  walk_more [] A i s h = h
  walk_more (p ∷ ps) A i s h =
      walk_more ps (F A p) (if_set (test A p) A (targets p) i) s (if_more (test A p) A (targets p) i s h)

  walk_adds :
      (ps : List Production) (A : Symbols) → IsSet A
      → (p : Production) → Memᴰ p ps → test A p ≡ true
      → (t : ℕ) → Memᴰ t (targets p) → t < 256 → In (walk F ps A) t
  unfolding walk
  walk_adds [] A i p m e t k l = absurd (Memᴰ.not-nil m)
  walk_adds (q ∷ ps) A i p m e t k l =
      let j = if_set (test A q) A (targets q) i in
      at_cons (λ r. test A r ≡ true → Memᴰ t (targets r) → In (walk F ps (F A q)) t)
      (λ e k. walk_more ps (F A q) j t (if_here (test A q) A (targets q) i e t l k))
      (λ o e k. walk_adds ps (F A q) j p o (mono A (F A q) p (if_more (test A q) A (targets q) i) e) t k l)
      m e k

  -- what holds of the symbols of a set, and of the targets of each production whose test passes over such a set, holds of all that is added
  module _ (P : ℕ → Type 0) where
    abbrev Holds : Symbols → Type 0
    Holds A = (s : ℕ) → In A s → P s

    abbrev pub Keeps : List Production → Type 0
    Keeps ps =
        (A : Symbols) (p : Production) → Memᴰ p ps → Holds A → test A p ≡ true
        → (t : ℕ) → Memᴰ t (targets p) → t < 256 → P t

    pub walk_holds : (ps : List Production) (A : Symbols) → IsSet A → Keeps ps → Holds A → Holds (walk F ps A)
    unfolding walk
    walk_holds [] A i keeps h = h
    walk_holds (p ∷ ps) A i keeps h =
        let j = if_set (test A p) A (targets p) i in
        walk_holds ps (F A p) j (λ B q m. keeps B q (Memᴰ.tail m))
        (λ s k.
        ⊎_elim (λ w. keeps A p (Memᴰ.head refl) h w.0 s w.1 (in_low (F A p) s j.four k)) (h s)
        (if_only (test A p) A (targets p) i s k))

    pub again_holds :
        (ps : List Production) (k : ℕ) (b : Bool) (A : Symbols) → IsSet A → Keeps ps → Holds A → Holds (again k b (walk F ps) A)
    unfolding again
    again_holds ps zero b A i keeps h = h
    again_holds ps (suc k) true A i keeps h = h
    again_holds ps (suc k) false A i keeps h =
        again_holds ps k (same_sets (walk F ps A) A) (walk F ps A) (walk_set ps A i) keeps (walk_holds ps A i keeps h)

  module _ (ps : List Production) where
    -- nothing is left to add
    abbrev pub Closed : Symbols → Type 0
    Closed A = (p : Production) → Memᴰ p ps → test A p ≡ true → (t : ℕ) → Memᴰ t (targets p) → t < 256 → In A t

    -- a walk adds nothing, and then nothing was left to add; or it adds a symbol
    pub still_closed : (A : Symbols) → IsSet A → walk F ps A ≡ A → Closed A
    still_closed A i e p m pass t k l = subst (λ B. In B t) e (walk_adds ps A i p m pass t k l)

    pub still_or_more : (A : Symbols) → IsSet A → (walk F ps A ≡ A) ⊎ (size A < size (walk F ps A))
    still_or_more A i = same_or_more A (walk F ps A) i (walk_set ps A i) (walk_more ps A i)

    -- ---- walks until nothing is added

    again_set : (k : ℕ) (b : Bool) (A : Symbols) → IsSet A → IsSet (again k b (walk F ps) A)
    unfolding again
    again_set zero b A i = i
    again_set (suc k) true A i = i
    again_set (suc k) false A i = again_set k (same_sets (walk F ps A) A) (walk F ps A) (walk_set ps A i)

    again_more : (k : ℕ) (b : Bool) (A : Symbols) → IsSet A → Within A (again k b (walk F ps) A)
    unfolding again
    again_more zero b A i s h = h
    again_more (suc k) true A i s h = h
    again_more (suc k) false A i s h =
        again_more k (same_sets (walk F ps A) A) (walk F ps A) (walk_set ps A i) s (walk_more ps A i s h)

    -- it ends because nothing is left to add: there are as many walks to make as symbols that are not there
    again_closed :
        (k : ℕ) (b : Bool) (A : Symbols) → IsSet A → (b ≡ true → Closed A) → (b ≡ false → 256 ≤ k + size A)
        → Closed (again k b (walk F ps) A)
    unfolding again
    again_closed zero true A i c l = c refl
    again_closed zero false A i c l = λ p m e t o low. size_full A (omega (arith, l refl)) t low
    again_closed (suc k) true A i c l = c refl
    again_closed (suc k) false A i c l =
        again_closed k (same_sets (walk F ps A) A) (walk F ps A) (walk_set ps A i)
        (λ e. still_closed (walk F ps A) (walk_set ps A i) (ap (walk F ps) ((same_decides (walk F ps A) A).so e)))
        (λ e.
        ⊎_elim
        (λ f. absurd (true≢false (sym ((same_decides (walk F ps A) A).passes f) ∙ e)))
        (λ m. omega (arith, l refl))
        (still_or_more A i))

  module _ (ps : List Production) (A : Symbols) (i : IsSet A) where
    pub out_set : IsSet (grown_out (walk F ps) A)
    unfolding grown_out
    out_set = again_set ps _ false A i

    pub out_more : Within A (grown_out (walk F ps) A)
    unfolding grown_out
    out_more = again_more ps _ false A i

    pub out_closed : Closed ps (grown_out (walk F ps) A)
    unfolding grown_out
    out_closed = again_closed ps _ false A i (λ e. absurd (true≢false (sym e))) (λ e. omega arith)

    pub out_holds : (P : ℕ → Type 0) → Keeps P ps → ((s : ℕ) → In A s → P s) → (s : ℕ) → In (grown_out (walk F ps) A) s → P s
    unfolding grown_out
    out_holds P keeps h = again_holds P ps _ false A i keeps h

    -- so it is the only set around A that keeps within it and to which nothing is left to add: however that was found
    pub out_only : (B : Symbols) → IsSet B → Within A B → Within B (grown_out (walk F ps) A) → Closed ps B → B ≡ grown_out (walk F ps) A
    out_only B j u v c =
        same_sets_lem B (grown_out (walk F ps) A) j out_set v
        (out_holds (In B) (λ C p m h e t k l. c p m (mono C B p h e) t k l) u)
