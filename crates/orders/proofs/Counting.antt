-- How many combinations there are, of one production and of all. Assumes nothing.
use mathlib.Core.List.Memᴰ
use mathlib.Core.List.{List, [], ◌∷◌, ◌++◌, map, Memᴰ}
use mathlib.Core.Logic.{◌⊎◌, inl, inr}
use mathlib.Core.Path.{◌≡◌, refl, sym, ◌∙◌, ap, subst}
use Prim.Native.Nat.{ℕ, suc, ◌+◌, ◌*◌}
use native.Mathlib.Nat.{zero-mul}
use native.Mathlib.Omega.{arith}
use lib.ListN.{length, length-append, length-map}
use Rattle.numbers.specs.Lists.{Distinct}
use Rattle.numbers.proofs.Distinct.{distinct_map, distinct_append}
use Rattle.rules.specs.Passes.{prefixed, combinations}
use Rattle.orders.specs.Closures.{Closure, product, sum}

length_prefixed : (xs : List ℕ) (rest : List (List ℕ)) → length (prefixed xs rest) ≡ length xs * length rest
unfolding prefixed
length_prefixed [] rest = sym (zero-mul (length rest))
length_prefixed (x ∷ xs) rest =
    length-append (map (λ c. x ∷ c) rest) (prefixed xs rest)
    ∙ ap (λ n. n + length (prefixed xs rest)) (length-map rest (λ c. x ∷ c))
    ∙ ap (λ n. length rest + n) (length_prefixed xs rest)
    ∙ more (length xs) (length rest)
  where
    more : (a b : ℕ) → b + a * b ≡ suc a * b
    more a b = omega arith

pub length_combinations : (f : ℕ → List ℕ) (bs : List ℕ) → length (combinations (map f bs)) ≡ product (map (λ b. length (f b)) bs)
unfolding combinations product
length_combinations f [] = refl
length_combinations f (b ∷ bs) =
    length_prefixed (f b) (combinations (map f bs)) ∙ ap (λ n. length (f b) * n) (length_combinations f bs)

-- each production of a list with each of its combinations
unfoldable pub every_closure : (ℕ → List (List ℕ)) → List ℕ → List Closure
every_closure combos [] = []
every_closure combos (p ∷ ps) = map (λ c. (p, c)) (combos p) ++ every_closure combos ps

module _ (combos : ℕ → List (List ℕ)) where
  pub every_at : (ps : List ℕ) (p : ℕ) (c : List ℕ) → Memᴰ p ps → Memᴰ c (combos p)
      → Memᴰ {A = Closure} (p, c) (every_closure combos ps)
  unfolding every_closure
  every_at [] p c m k = absurd (Memᴰ.not-nil m)
  every_at (q ∷ ps) p c m k = go (Memᴰ.cases_cons m) (every_at ps p c)
    where
      go : (p ≡ q) ⊎ Memᴰ p ps
          → (Memᴰ p ps → Memᴰ c (combos p) → Memᴰ {A = Closure} (p, c) (every_closure combos ps))
          → Memᴰ {A = Closure} (p, c) (map (λ d. (q, d)) (combos q) ++ every_closure combos ps)
      go (inl e) ih =
          Memᴰ.cast (λ i. (e i, c))
          (Memᴰ.append_left (every_closure combos ps) (Memᴰ.map (λ d. (q, d)) (subst (λ r. Memᴰ c (combos r)) e k)))
      go (inr n) ih = Memᴰ.append_right (map (λ d. (q, d)) (combos q)) (ih n k)

  pub every_mem : (ps : List ℕ) (x : Closure) → Memᴰ x (every_closure combos ps) → Memᴰ x.0 ps × Memᴰ x.1 (combos x.0)
  unfolding every_closure
  every_mem [] x m = absurd (Memᴰ.not-nil m)
  every_mem (q ∷ ps) x m = go (Memᴰ.append_cases (map (λ d. (q, d)) (combos q)) m) (every_mem ps x)
    where
      go : Memᴰ x (map (λ d. (q, d)) (combos q)) ⊎ Memᴰ x (every_closure combos ps)
          → (Memᴰ x (every_closure combos ps) → Memᴰ x.0 ps × Memᴰ x.1 (combos x.0))
          → Memᴰ x.0 (q ∷ ps) × Memᴰ x.1 (combos x.0)
      go (inl n) ih =
          let r = Memᴰ.of_map (λ d. (q, d)) (combos q) n in
          subst (λ (y : Closure). Memᴰ y.0 (q ∷ ps) × Memᴰ y.1 (combos y.0)) r.2 (Memᴰ.head refl, r.1)
      go (inr n) ih = let r = ih n in (Memᴰ.tail r.0, r.1)

  pub distinct_every : ((p : ℕ) → Distinct (combos p)) → (ps : List ℕ) → Distinct ps → Distinct (every_closure combos ps)
  unfolding every_closure
  distinct_every h [] d = tt
  distinct_every h (p ∷ ps) (n, d) =
      distinct_append (map (λ c. (p, c)) (combos p)) (every_closure combos ps)
      (distinct_map (λ c. (p, c)) (combos p) (λ a b m k e. ap (λ (x : Closure). x.1) e) (h p)) (distinct_every h ps d)
      (λ x m k.
      let r = Memᴰ.of_map (λ c. (p, c)) (combos p) m in
      n (Memᴰ.cast (ap (λ (y : Closure). y.0) r.2) (every_mem ps x k).0))

  pub length_every : (ps : List ℕ) → length (every_closure combos ps) ≡ sum (map (λ p. length (combos p)) ps)
  unfolding every_closure sum
  length_every [] = refl
  length_every (p ∷ ps) =
      length-append (map (λ c. (p, c)) (combos p)) (every_closure combos ps)
      ∙ ap (λ n. n + length (every_closure combos ps)) (length-map (combos p) (λ c. (p, c)))
      ∙ ap (λ n. length (combos p) + n) (length_every ps)
