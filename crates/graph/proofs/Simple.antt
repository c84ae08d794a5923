-- Where there is a path there is one on which no node comes twice, and so one of at most as many links as there are nodes. Assumes nothing.
use mathlib.Core.Path.{◌≡◌, refl, sym, subst}
use mathlib.Core.List.Memᴰ
use mathlib.Core.List.{List, [], ◌∷◌, Memᴰ}
use mathlib.Core.Logic.{⊎_elim}
use Prim.Native.Nat.{ℕ, ◌<◌}
use native.Mathlib.Decide.{ℕ_discrete}
use native.Mathlib.Omega.{arith}
use lib.ListN.{length}
use Rattle.numbers.specs.Lists.{Distinct}
use Rattle.numbers.proofs.Pigeons.{pigeons_numbered}
use Rattle.graph.specs.Paths.{Chain}
use Rattle.graph.proofs.Chains.{is_path_low}

member? : (x : ℕ) (l : List ℕ) → Dec (Memᴰ x l)
member? x [] = no Memᴰ.not-nil
member? x (y ∷ l) = go (ℕ_discrete x y) (member? x l)
  where
    go : Dec (x ≡ y) → Dec (Memᴰ x l) → Dec (Memᴰ x (y ∷ l))
    go (yes e) d = yes (Memᴰ.head e)
    go (no f) (yes m) = yes (Memᴰ.tail m)
    go (no f) (no n) = no (λ m. ⊎_elim f n (Memᴰ.cases_cons m))

module _ (rows : List ℕ) (y : ℕ) where
  -- links from x to y, on which no node comes twice
  abbrev Simple : ℕ → Type 0
  Simple x = (zs : List ℕ) × Chain rows x zs y × Distinct (x ∷ zs)

  -- from a later node on
  later : (x u : ℕ) (us : List ℕ) → Chain rows u us y → Distinct (u ∷ us) → Memᴰ x (u ∷ us) → Simple x
  later x u us h d (Memᴰ.head e) = subst Simple (sym e) (us, h, d)
  later x u [] h d (Memᴰ.tail m) = absurd (Memᴰ.not-nil m)
  later x u (v ∷ us) h d (Memᴰ.tail m) = later x v us h.1 d.1 m

  simple : (x : ℕ) (zs : List ℕ) → Chain rows x zs y → Simple x
  simple x [] h = ([], h, (Memᴰ.not-nil, tt))
  simple x (z ∷ zs) h = go (simple z zs h.1)
    where
      go : Simple z → Simple x
      go (us, c, d) = by (member? x (z ∷ us))
        where
          by : Dec (Memᴰ x (z ∷ us)) → Simple x
          by (yes m) = later x z us c d m
          by (no n) = (z ∷ us, (h.0, c), (n, d))

  -- where there are links from x to y, there are some with fewer nodes between than there are nodes
  pub short_chain : (x : ℕ) (zs : List ℕ) → Chain rows x zs y → (us : List ℕ) × Chain rows x us y × (length us < length rows)
  short_chain x zs h =
      let s = simple x zs h in
      let hole : (z : ℕ) → Memᴰ z (x ∷ s.0) → (k : ℕ) × (k < length rows) × (k ≡ z) =
      λ z m. (z, is_path_low rows x y (x ∷ s.0) (refl, s.1) z m, refl) in
      (s.0, s.1, omega (arith, pigeons_numbered (λ (k : ℕ). k) (length rows) (x ∷ s.0) s.2 hole))
