-- The entries in the slices: how many they are, what each of them holds, and a store of one more. Assumes nothing.
use mathlib.Core.Path.{◌≡◌, refl, sym, ap, ap₂, ◌∙◌}
use mathlib.Core.Bool.{Bool, ◌||◌, or_assoc, or_comm, or-false}
use mathlib.Core.List.{List, [], ◌∷◌, ◌++◌, map, append_assoc, append-nil, map-append}
use mathlib.Core.Logic.{⊎_elim}
use Prim.Native.Nat.{ℕ, zero, suc, ◌+◌, ◌*◌, ◌-◌, ◌≤◌, ◌<◌}
use native.Mathlib.Nat.{eq-or-lt_of_le, lt-suc_self}
use native.Mathlib.Omega.{arith}
use native.Mathlib.Numerals.{add-one}
use lib.Dec.{eqb}
use lib.ListN.{length, get_or, set, take, drop, length-append, length-set, take-append-drop, get_or-append}
use lib.Seq.{sets, sets-eq, length-sets, length-take-le, take-suc, take-add, drop_at, get_or_at, get_or-set_same, get_or-set_other, drop-set-lt, drop-set-add, take-set-le, take-append_seam}
use Rattle.numbers.specs.Lists.{both, some_below, written}
use Rattle.rules.specs.declared.Entry.{Entry}
use Rattle.rules.specs.Passes.{no_entry, entry, known}
use Rattle.passes.specs.Slices.{Slices, all_kids, entry_at, entries_to}
use Rattle.steps.specs.Slices.{put}
use Rattle.steps.specs.Step.{seen_in}
use Rattle.passes.specs.Follow.{Beyond}

-- ---- a list of entries that grows at its end

pub length_snoc {ℓ} : {A : Type ℓ} (xs : List A) (x : A) → length (xs ++ (x ∷ [])) ≡ suc (length xs)
length_snoc xs x = length-append xs (x ∷ []) ∙ add-one (length xs)

module _ (σ : Slices) where
  pub length_entries : (n : ℕ) → length (entries_to σ n) ≡ n
  unfolding entries_to
  length_entries zero = refl
  length_entries (suc n) = length_snoc (entries_to σ n) (entry_at σ n) ∙ ap suc (length_entries n)

  pub entry_at_lem : (n i : ℕ) → i < n → entry (entries_to σ n) i ≡ entry_at σ i
  unfolding entries_to
  entry_at_lem zero i l = absurd (omega arith)
  entry_at_lem (suc n) i l =
      ⊎_elim
      (λ q. let z : n ≡ i = omega (arith, q) in
      get_or_at (entries_to σ n) (entry_at σ n) [] no_entry i (length_entries n ∙ z) ∙ ap (entry_at σ) z)
      (λ h. get_or-append (entries_to σ n) (entry_at σ n ∷ []) no_entry i (omega (arith, h, length_entries n)) ∙ entry_at_lem n i (omega (arith, h)))
      (eq-or-lt_of_le l)

pub entries_same : (σ τ : Slices) (n : ℕ) → ((i : ℕ) → i < n → entry_at τ i ≡ entry_at σ i) → entries_to τ n ≡ entries_to σ n
unfolding entries_to
entries_same σ τ zero h = refl
entries_same σ τ (suc n) h =
    ap₂ (λ (es : List Entry) (e : Entry). es ++ (e ∷ [])) (entries_same σ τ n (λ i l. h i (omega arith))) (h n (lt-suc_self n))

-- ---- what is stored, and the graphs of a combination

known_append : (y g : ℕ) (a b : List Entry) → known y g (a ++ b) ≡ (known y g a || known y g b)
unfolding known
known_append y g [] b = refl
known_append y g (e ∷ a) b =
    ap (λ (x : Bool). both (eqb e.symbol y) (eqb e.graph g) || x) (known_append y g a b)
    ∙ sym (or_assoc (both (eqb e.symbol y) (eqb e.graph g)) (known y g a) (known y g b))

pub seen_known : (σ : Slices) (y g n : ℕ) → seen_in σ.symbols σ.graphs y g n ≡ known y g (entries_to σ n)
unfolding some_below known entries_to entry_at
seen_known σ y g zero = refl
seen_known σ y g (suc n) =
    let here = both (eqb (get_or σ.symbols n 0) y) (eqb (get_or σ.graphs n 0) g) in
    ap (λ (x : Bool). here || x) (seen_known σ y g n)
    ∙ or_comm here (known y g (entries_to σ n))
    ∙ ap (λ (x : Bool). known y g (entries_to σ n) || x) (sym (or-false here))
    ∙ sym (known_append y g (entries_to σ n) (entry_at σ n ∷ []))

pub graphs_same : (σ : Slices) (n : ℕ) (combo : List ℕ) → ((i : ℕ) → i < length combo → get_or combo i 0 < n)
    → map (λ i. get_or σ.graphs i 0) combo ≡ map (λ i. (entry (entries_to σ n) i).graph) combo
unfolding entry_at
graphs_same σ n [] h = refl
graphs_same σ n (i ∷ combo) h =
    ap₂ (λ (g : ℕ) (gs : List ℕ). g ∷ gs) (ap (λ (e : Entry). e.graph) (sym (entry_at_lem σ n i (h 0 (omega arith)))))
    (graphs_same σ n combo (λ j l. h (suc j) (omega arith)))

-- ---- one more entry

drop_sets : (vs l : List ℕ) (i n : ℕ) → i + length vs ≤ n → drop n (sets l i vs) ≡ drop n l
drop_sets [] l i n h = refl
drop_sets (v ∷ vs) l i n h = drop_sets vs (set l i v) (suc i) n (omega arith) ∙ drop-set-lt n l i v (omega arith)

-- nothing is changed past what is stored
pub set_beyond : (l : List ℕ) (n v : ℕ) → Beyond (suc n) l (set l n v)
set_beyond l n v = record { long = length-set l n v; rest = drop-set-lt (suc n) l n v (omega arith) }

pub sets_beyond : (l : List ℕ) (i : ℕ) (vs : List ℕ) (n : ℕ) → i + length vs ≤ n → Beyond n l (sets l i vs)
sets_beyond l i vs n h = record { long = length-sets l i vs; rest = drop_sets vs l i n h }

part_set : (l : List ℕ) (a n i v : ℕ) → a + n ≤ i → take n (drop a (set l i v)) ≡ take n (drop a l)
part_set l a n i v h =
    let e : a + (i - a) ≡ i = omega arith in
    ap (λ (j : ℕ). take n (drop a (set l j v))) (sym e)
    ∙ ap (take n) (drop-set-add a l (i - a) v)
    ∙ take-set-le n (drop a l) (i - a) v (omega arith)

part_sets : (vs l : List ℕ) (a n i : ℕ) → a + n ≤ i → take n (drop a (sets l i vs)) ≡ take n (drop a l)
part_sets [] l a n i h = refl
part_sets (v ∷ vs) l a n i h = part_sets vs (set l i v) a n (suc i) (omega arith) ∙ part_set l a n i v h

part_stored : (vs l : List ℕ) (i : ℕ) → i + length vs ≤ length l → take (length vs) (drop i (sets l i vs)) ≡ vs
part_stored vs l i h =
    let e = sets-eq vs l i h ∙ append_assoc (take i l) vs (drop (i + length vs) l) in
    rw e
    (ap (take (length vs)) (drop_at (take i l) (vs ++ drop (i + length vs) l) i (length-take-le i l (omega arith)))
    ∙ take-append_seam vs (drop (i + length vs) l))

module _ (σ : Slices) (n : ℕ) (e : Entry) where
  put_below : (i : ℕ) → i < n → entry_at (put σ n e) i ≡ entry_at σ i
  unfolding entry_at
  put_below i l =
      let ne : i ≡ n → ⊥ = omega arith in
      rw (
        get_or-set_other σ.symbols n i e.symbol 0 ne,
        get_or-set_other σ.graphs n i e.graph 0 ne,
        get_or-set_other σ.productions n i e.production 0 ne,
        part_sets e.kids σ.kids (7 * i) 7 (7 * n) (omega arith),
      )

  pub put_stay : (m : ℕ) → m ≤ n → entries_to (put σ n e) m ≡ entries_to σ m
  put_stay m l = entries_same σ (put σ n e) m (λ i h. put_below i (omega arith))

  module _ (a : n < length σ.symbols) (b : n < length σ.graphs) (c : n < length σ.productions) (d : 7 * n + 7 ≤ length σ.kids)
      (seven : length e.kids ≡ 7) where
    put_here : entry_at (put σ n e) n ≡ e
    unfolding entry_at
    put_here =
        let k : take 7 (drop (7 * n) (sets σ.kids (7 * n) e.kids)) ≡ e.kids =
        ap (λ (j : ℕ). take j (drop (7 * n) (sets σ.kids (7 * n) e.kids))) (sym seven)
        ∙ part_stored e.kids σ.kids (7 * n) (omega arith) in
        rw (
          get_or-set_same σ.symbols n e.symbol 0 a,
          get_or-set_same σ.graphs n e.graph 0 b,
          get_or-set_same σ.productions n e.production 0 c,
          k,
        )

    pub put_entries : entries_to (put σ n e) (suc n) ≡ entries_to σ n ++ (e ∷ [])
    unfolding entries_to
    put_entries = ap₂ (λ (es : List Entry) (x : Entry). es ++ (x ∷ [])) (put_stay n (omega arith)) put_here

-- ---- the stored entries, written over the front of the slices

kids_snoc : (es : List Entry) (e : Entry) → all_kids (es ++ (e ∷ [])) ≡ all_kids es ++ e.kids
unfolding all_kids
kids_snoc [] e = append-nil e.kids
kids_snoc (x ∷ es) e = ap (λ (l : List ℕ). x.kids ++ l) (kids_snoc es e) ∙ sym (append_assoc x.kids (all_kids es) e.kids)

module _ (σ : Slices) where
  pub field_taken : (f : Entry → ℕ) (xs : List ℕ) → ((i : ℕ) → f (entry_at σ i) ≡ get_or xs i 0)
      → (n : ℕ) → n ≤ length xs → map f (entries_to σ n) ≡ take n xs
  unfolding entries_to
  field_taken f xs at zero l = refl
  field_taken f xs at (suc n) l =
      map-append f (entries_to σ n) (entry_at σ n ∷ [])
      ∙ ap₂ (λ (a : List ℕ) (b : ℕ). a ++ (b ∷ [])) (field_taken f xs at n (omega arith)) (at n)
      ∙ sym (take-suc xs n 0 l)

  pub kids_taken : (n : ℕ) → 7 * n ≤ length σ.kids → all_kids (entries_to σ n) ≡ take (7 * n) σ.kids
  unfolding entries_to entry_at all_kids
  kids_taken zero l = refl
  kids_taken (suc n) l =
      let e : 7 * n + 7 ≡ 7 * suc n = omega arith in
      kids_snoc (entries_to σ n) (entry_at σ n)
      ∙ ap (λ (a : List ℕ). a ++ take 7 (drop (7 * n) σ.kids)) (kids_taken n (omega arith))
      ∙ sym (take-add (7 * n) 7 σ.kids)
      ∙ ap (λ (i : ℕ). take i σ.kids) e

pub written_over : (n : ℕ) (new before after : List ℕ) → new ≡ take n after → n ≤ length after → Beyond n before after
    → after ≡ written new before
written_over n new before after e l h =
    let long : length new ≡ n = ap length e ∙ length-take-le n after l in
    sym (take-append-drop n after) ∙ ap₂ (λ (a b : List ℕ). a ++ b) (sym e) h.rest ∙ ap (λ (i : ℕ). new ++ drop i before) (sym long)
