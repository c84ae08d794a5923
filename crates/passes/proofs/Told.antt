-- What an outcome leaves in the slices that it is told in: they are long enough for its entries, and these can be read off them again.
-- Assumes nothing.
use mathlib.Core.Path.{◌≡◌, refl, sym, ap, ◌∙◌}
use mathlib.Core.List.{List, [], ◌∷◌, ◌++◌, map, append_assoc}
use Prim.Native.Nat.{ℕ, zero, suc, ◌+◌, ◌*◌, ◌≤◌, ◌<◌}
use native.Mathlib.Omega.{arith}
use lib.ListN.{length, get_or, take, drop, length-append, length-map}
use lib.Seq.{ext_get_or, take_at, drop_at, drop-drop}
use Rattle.numbers.specs.Lists.{written}
use Rattle.numbers.proofs.Members.{at_front}
use Rattle.rules.specs.declared.Entry.{Entry}
use Rattle.rules.specs.declared.Report.{Report}
use Rattle.rules.specs.Passes.{no_entry, entry, Outcome}
use Rattle.rules.proofs.Stored.{Sevens}
use Rattle.passes.specs.Slices.{Slices, all_kids, Tells, entry_at, entries_to}
use Rattle.passes.proofs.Entries.{length_entries, entry_at_lem}

pub length_kids : (es : List Entry) → Sevens es → length (all_kids es) ≡ 7 * length es
unfolding all_kids
length_kids [] h = refl
length_kids (e ∷ es) h = omega (arith, length-append e.kids (all_kids es), h.0, length_kids es h.1)

kids_at : (es : List Entry) (rest : List ℕ) (i : ℕ) → Sevens es → i < length es
    → take 7 (drop (7 * i) (all_kids es ++ rest)) ≡ (entry es i).kids
unfolding all_kids
kids_at [] rest i h l = absurd (omega arith)
kids_at (e ∷ es) rest zero h l =
    ap (take 7) (append_assoc e.kids (all_kids es) rest) ∙ take_at e.kids (all_kids es ++ rest) 7 h.0
kids_at (e ∷ es) rest (suc i) h l =
    let further : 7 * suc i ≡ 7 + 7 * i = omega arith in
    ap (λ (j : ℕ). take 7 (drop j (e.kids ++ all_kids es ++ rest))) further
    ∙ ap (λ (ks : List ℕ). take 7 (drop (7 + 7 * i) ks)) (append_assoc e.kids (all_kids es) rest)
    ∙ ap (take 7) (sym (drop-drop (7 * i) 7 (e.kids ++ (all_kids es ++ rest))))
    ∙ ap (λ (ks : List ℕ). take 7 (drop (7 * i) ks)) (drop_at e.kids (all_kids es ++ rest) 7 h.0)
    ∙ kids_at es rest i h.1 (omega arith)

module _ (o : Outcome) (σ : Slices) (r : Report) (τ : Slices) (seven : Sevens o.entries) (told : Tells o σ r τ) where
  abbrev es : List Entry
  es = o.entries

  pub entries_fit : (length es ≤ length τ.symbols) × (length es ≤ length τ.graphs) × (length es ≤ length τ.productions)
      × (7 * length es ≤ length τ.kids)
  entries_fit = (
    field (λ e. e.symbol) τ.symbols σ.symbols told.symbols,
    field (λ e. e.graph) τ.graphs σ.graphs told.graphs,
    field (λ e. e.production) τ.productions σ.productions told.productions,
    omega (arith, ap length told.kids, length-append (all_kids es) (drop (length (all_kids es)) σ.kids), length_kids es seven),
  )
    where
      field : (f : Entry → ℕ) (xs old : List ℕ) → xs ≡ written (map f es) old → length es ≤ length xs
      field f xs old e =
          omega (arith, ap length e, length-append (map f es) (drop (length (map f es)) old), length-map es f)

  pub entries_told : entries_to τ (length es) ≡ es
  unfolding entry_at
  entries_told =
      ext_get_or no_entry (entries_to τ (length es)) es (length_entries τ (length es)) (λ i l.
      let here : i < length es = omega (arith, length_entries τ (length es)) in
      entry_at_lem τ (length es) i here ∙ same i here)
    where
      field : (f : Entry → ℕ) (xs old : List ℕ) → xs ≡ written (map f es) old → (i : ℕ) → i < length es → get_or xs i 0 ≡ f (entry es i)
      field f xs old e i l =
          ap (λ (ys : List ℕ). get_or ys i 0) e ∙ at_front f no_entry 0 es (drop (length (map f es)) old) i l

      same : (i : ℕ) → i < length es → entry_at τ i ≡ entry es i
      same i l = λ j. record {
        symbol = field (λ e. e.symbol) τ.symbols σ.symbols told.symbols i l j;
        graph = field (λ e. e.graph) τ.graphs σ.graphs told.graphs i l j;
        production = field (λ e. e.production) τ.productions σ.productions told.productions i l j;
        kids =
            (ap (λ (ks : List ℕ). take 7 (drop (7 * i) ks)) told.kids ∙ kids_at es (drop (length (all_kids es)) σ.kids) i seven l) j;
      }
