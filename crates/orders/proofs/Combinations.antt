-- Combinations of entries: they stay where entries are added, and those of a turn are all combinations of its candidates, each once.
-- Assumes nothing.
use mathlib.Core.Path.{◌≡◌, refl, sym, ap, ◌∙◌, subst}
use mathlib.Core.Logic.{◌⊎◌, inl, inr}
use mathlib.Core.List.Memᴰ
use mathlib.Core.List.{List, [], ◌∷◌, ◌++◌, map, Memᴰ}
use Prim.Native.Nat.{ℕ, suc, ◌<◌}
use native.Mathlib.Omega.{arith}
use lib.Dec.{eqb}
use lib.ListN.{length, get_or-append}
use lib.Seq.{take-append_seam}
use borrow.Author.Tests.{eqb-true, eq-eqb}
use Rattle.numbers.specs.Lists.{up_from, Distinct}
use Rattle.numbers.proofs.Members.{at_cons, keep_at, keep_mem, up_from_at, up_from_mem}
use Rattle.numbers.proofs.Distinct.{distinct_up_from, distinct_map, distinct_append, distinct_keep}
use Rattle.rules.specs.declared.Entry.{Entry}
use Rattle.rules.specs.Passes.{System, no_entry, entry, graphs, seven, candidates, prefixed, combinations, counting}
use Rattle.orders.specs.Stored.{FitsIn, Combination}

pub entry_stays : (es more : List Entry) (i : ℕ) → i < length es → entry (es ++ more) i ≡ entry es i
entry_stays es more i h = get_or-append es more no_entry i h

-- ---- entries are added
-- under another bound, over entries that have the same symbols
fits_over : (es fs : List Entry) (P Q : ℕ → Type 0) → ((i : ℕ) → P i → Q i × ((entry fs i).symbol ≡ (entry es i).symbol)) → (c bs : List ℕ)
    → FitsIn es P c bs → FitsIn fs Q c bs
fits_over es fs P Q h [] [] f = tt
fits_over es fs P Q h [] (b ∷ bs) f = f
fits_over es fs P Q h (k ∷ c) [] f = f
fits_over es fs P Q h (k ∷ c) (b ∷ bs) f = let x = h k f.0 in (x.0, x.1 ∙ f.1, fits_over es fs P Q h c bs f.2)

pub fits_map : (es : List Entry) (P Q : ℕ → Type 0) → ((i : ℕ) → P i → Q i) → (c bs : List ℕ) → FitsIn es P c bs → FitsIn es Q c bs
fits_map es P Q h = fits_over es es P Q (λ i p. (h i p, refl))

pub fits_more : (es more : List Entry) (P : ℕ → Type 0) → ((i : ℕ) → P i → i < length es) → (c bs : List ℕ)
    → FitsIn es P c bs → FitsIn (es ++ more) P c bs
fits_more es more P h = fits_over es (es ++ more) P P (λ i p. (p, ap (λ (e : Entry). e.symbol) (entry_stays es more i (h i p))))

pub fits_less : (es more : List Entry) (P : ℕ → Type 0) → ((i : ℕ) → P i → i < length es) → (c bs : List ℕ)
    → FitsIn (es ++ more) P c bs → FitsIn es P c bs
fits_less es more P h = fits_over (es ++ more) es P P (λ i p. (p, ap (λ (e : Entry). e.symbol) (sym (entry_stays es more i (h i p)))))

pub graphs_stay : (es more : List Entry) (P : ℕ → Type 0) → ((i : ℕ) → P i → i < length es) → (c bs : List ℕ)
    → FitsIn es P c bs → graphs (es ++ more) c ≡ graphs es c
graphs_stay es more P h [] [] f = refl
graphs_stay es more P h [] (b ∷ bs) f = absurd f
graphs_stay es more P h (k ∷ c) [] f = absurd f
graphs_stay es more P h (k ∷ c) (b ∷ bs) f =
    rw (entry_stays es more k (h k f.0), graphs_stay es more P h c bs f.2)

-- ---- the seven slots
fits_length : (es : List Entry) (P : ℕ → Type 0) (c bs : List ℕ) → FitsIn es P c bs → length c ≡ length bs
fits_length es P [] [] f = refl
fits_length es P [] (b ∷ bs) f = absurd f
fits_length es P (k ∷ c) [] f = absurd f
fits_length es P (k ∷ c) (b ∷ bs) f = ap suc (fits_length es P c bs f.2)

-- the slots that count are the combination
pub counting_seven : (W : System) (es : List Entry) (P : ℕ → Type 0) (p : ℕ) (c : List ℕ) → FitsIn es P c (W.rights p)
    → counting (W.rights p) (seven c) ≡ c
unfolding seven
counting_seven W es P p c f = rw (← fits_length es P c (W.rights p) f) (take-append_seam c _)

-- ---- the combinations of a turn
prefixed_at : (xs : List ℕ) (rest : List (List ℕ)) {x : ℕ} {c : List ℕ} → Memᴰ x xs → Memᴰ c rest
    → Memᴰ (x ∷ c) (prefixed xs rest)
unfolding prefixed
prefixed_at [] rest m n = absurd (Memᴰ.not-nil m)
prefixed_at (y ∷ xs) rest {x} {c} m n =
    at_cons (λ z. Memᴰ (z ∷ c) (map (λ d. y ∷ d) rest ++ prefixed xs rest))
    (Memᴰ.append_left (prefixed xs rest) (Memᴰ.map (λ d. y ∷ d) n))
    (λ k. Memᴰ.append_right (map (λ d. y ∷ d) rest) (prefixed_at xs rest k n)) m

pub record Front (xs : List ℕ) (rest : List (List ℕ)) (z : List ℕ) : Type 0 where
  pub first : ℕ
  pub others : List ℕ
  pub here : Memᴰ first xs
  pub there : Memᴰ others rest
  pub joined : z ≡ first ∷ others

prefixed_mem : (xs : List ℕ) (rest : List (List ℕ)) {z : List ℕ} → Memᴰ z (prefixed xs rest) → Front xs rest z
unfolding prefixed
prefixed_mem [] rest m = absurd (Memᴰ.not-nil m)
prefixed_mem (y ∷ xs) rest {z} m = go (Memᴰ.append_cases (map (λ d. y ∷ d) rest) m) (λ n. prefixed_mem xs rest n)
  where
    go : Memᴰ z (map (λ d. y ∷ d) rest) ⊎ Memᴰ z (prefixed xs rest)
        → (Memᴰ z (prefixed xs rest) → Front xs rest z) → Front (y ∷ xs) rest z
    go (inl n) k =
        let r = Memᴰ.of_map (λ d. y ∷ d) rest n in
        record { first = y; others = r.0; here = Memᴰ.head refl; there = r.1; joined = sym r.2 }
    go (inr n) k =
        let r = k n in
        record { first = r.first; others = r.others; here = Memᴰ.tail r.here; there = r.there; joined = r.joined }

pub combinations_at : (es : List Entry) (c bs : List ℕ) → Combination es (length es) c bs
    → Memᴰ c (combinations (map (candidates es) bs))
unfolding combinations candidates
combinations_at es [] [] f = Memᴰ.head refl
combinations_at es [] (b ∷ bs) f = absurd f
combinations_at es (k ∷ c) [] f = absurd f
combinations_at es (k ∷ c) (b ∷ bs) f =
    prefixed_at (candidates es b) (combinations (map (candidates es) bs))
    (keep_at (λ i. eqb (entry es i).symbol b) (up_from 0 (length es)) (up_from_at 0 (length es) k (omega arith) (omega (arith, f.0)))
    (eq-eqb (entry es k).symbol b f.1))
    (combinations_at es c bs f.2)

pub combinations_fit : (es : List Entry) (c bs : List ℕ) → Memᴰ c (combinations (map (candidates es) bs))
    → Combination es (length es) c bs
unfolding combinations candidates
combinations_fit es c [] m =
    at_cons (λ z. Combination es (length es) z []) tt (λ n. absurd (Memᴰ.not-nil n)) m
combinations_fit es c (b ∷ bs) m =
    let r = prefixed_mem (candidates es b) (combinations (map (candidates es) bs)) m in
    let k = keep_mem (λ i. eqb (entry es i).symbol b) (up_from 0 (length es)) r.here in
    let u = up_from_mem 0 (length es) k.0 in
    subst (λ z. Combination es (length es) z (b ∷ bs)) (sym r.joined)
    (omega (arith, u.1), eqb-true (entry es r.first).symbol b k.1, combinations_fit es r.others bs r.there)

-- ---- each combination of a turn is there once
abbrev first_of : List ℕ → ℕ
first_of [] = 0
first_of (x ∷ l) = x

abbrev rest_of : List ℕ → List ℕ
rest_of [] = []
rest_of (x ∷ l) = l

distinct_prefixed : (xs : List ℕ) (rest : List (List ℕ)) → Distinct xs → Distinct rest → Distinct (prefixed xs rest)
unfolding prefixed
distinct_prefixed [] rest d e = tt
distinct_prefixed (x ∷ xs) rest (n, d) e =
    distinct_append (map (λ c. x ∷ c) rest) (prefixed xs rest) (distinct_map (λ c. x ∷ c) rest (λ a b k m q. ap rest_of q) e)
    (distinct_prefixed xs rest d e)
    (λ z m k.
    let a = Memᴰ.of_map (λ c. x ∷ c) rest m in
    let b = prefixed_mem xs rest k in
    n (Memᴰ.cast (ap first_of (a.2 ∙ b.joined)) b.here))

pub distinct_combinations : (f : ℕ → List ℕ) → ((a : ℕ) → Distinct (f a)) → (bs : List ℕ) → Distinct (combinations (map f bs))
unfolding combinations
distinct_combinations f h [] = (λ m. Memᴰ.not-nil m, tt)
distinct_combinations f h (b ∷ bs) = distinct_prefixed (f b) (combinations (map f bs)) (h b) (distinct_combinations f h bs)

pub distinct_candidates : (es : List Entry) (b : ℕ) → Distinct (candidates es b)
unfolding candidates
distinct_candidates es b = distinct_keep _ (up_from 0 (length es)) (distinct_up_from 0 (length es))
