-- The claim on room: out of room exactly if the trees have more pairs of root symbol and graph than the room; else the entries are those
-- pairs, each once. For a sound outcome where none of the trees has a circle, the trees being those of the productions that take part.
-- Assumes nothing.
use mathlib.Core.Path.{◌≡◌, sym, ap, ◌∙◌, subst}
use mathlib.Core.List.Memᴰ
use mathlib.Core.List.{List, ◌∷◌, Memᴰ}
use mathlib.Core.Logic.{⊎_elim}
use Prim.Native.Nat.{ℕ, ◌*◌, ◌^◌, ◌≤◌, ◌<◌}
use native.Mathlib.Omega.{arith}
use lib.ListN.{length}
use Rattle.numbers.specs.Lists.{up_from, Distinct}
use Rattle.grammar.specs.Grammar.{Grammar}
use Rattle.trees.specs.Tree.{WellFormed, AtMost}
use Rattle.trees.specs.Compound.{NumberHolds}
use Rattle.trees.specs.Record as record_of_trees
use Rattle.trees.specs.Record.{pairs, OfTree}
use Rattle.numbers.proofs.Members.{up_from_at, up_from_mem}
use Rattle.trees.proofs.Numbers.{told_apart}
use Rattle.trees.proofs.Saturation.{all_stored}
use Rattle.trees.proofs.Counting.{length_pairs, pairs_differ, pairs_of_trees, one_graph, counting_numbers}
use Rattle.rules.specs.declared.Entry.{Entry}
use Rattle.rules.specs.Passes.{entry}
use Rattle.rules.specs.Test.{system_of}
use Rattle.orders.specs.Stored.{Made, Different, PairStored}
use Rattle.verdict.specs.Demands.{told}
use Rattle.verdict.proofs.Trees.{small, all_derived, low, next_tree}

module _ (w : ℕ) (g : Grammar) (formed : WellFormed g) (few : AtMost w g) (Part : ℕ → Type 0) (es : List Entry)
    (made : (k : ℕ) → k < length es → Made (system_of w g) Part es k (entry es k)) (different : Different es) where
  -- the number of a graph of some tree, with its root symbol
  abbrev pub Pair : ℕ × ℕ → Type 0
  Pair q = (q.1 < 2 ^ (w * w)) × OfTree g (NumberHolds w) Part q

  abbrev pub stored : List (ℕ × ℕ)
  stored = pairs (told g es) (length es)

  pub stored_once : Distinct (pairs (told g es) (length es))
  stored_once = pairs_differ (told g es) (length es) different

  abbrev pair_at : ℕ → ℕ × ℕ
  pair_at k = ((entry es k).symbol, (entry es k).graph)

  pub stored_pairs_lem : (q : ℕ × ℕ) → Memᴰ q (pairs (told g es) (length es)) → Pair q
  stored_pairs_lem q m =
      let r = Memᴰ.of_map pair_at (up_from 0 (length es)) m in
      let l : r.0 < length es = omega (arith, (up_from_mem 0 (length es) r.1).1) in (
        subst (λ (z : ℕ × ℕ). z.1 < 2 ^ (w * w)) r.2 (low w g formed few Part es made r.0 l),
        pairs_of_trees (told g es) (length es) g (NumberHolds w) Part (all_derived w g formed few Part es made) q m,
      )

  -- a saturated store
  module _ (full : record_of_trees.Saturated g (NumberHolds w) Part (told g es) (length es)) where
    pub pairs_stored : (q : ℕ × ℕ) → Pair q → Memᴰ q (pairs (told g es) (length es))
    pairs_stored q (s, (t, o)) =
        let k = all_stored g (NumberHolds w) Part (told g es) (length es) full t o.complete in
        let e =
        one_graph g (NumberHolds w) Part (told g es) (length es) (λ x. x < 2 ^ (w * w)) (told_apart w) (low w g formed few Part es made) (entry es k.number).graph
        q.1 (low w g formed few Part es made k.number k.among) s t k.graph o.is_graph in
        let here : ◌≡◌ {A = ℕ × ℕ} q (pair_at k.number) = λ i. (sym (k.symbol ∙ o.symbol) i, sym e i) in
        Memᴰ.cast here (Memᴰ.map pair_at (up_from_at 0 (length es) k.number (omega arith) (omega (arith, k.among))))

    pub no_more : (l : List (ℕ × ℕ)) → Distinct l → ((q : ℕ × ℕ) → Memᴰ q l → Pair q) → length l ≤ length es
    no_more = counting_numbers g w Part (told g es) (length es) (low w g formed few Part es made) full

  -- a pair that is not stored, made of the entries: with the entries it is one more
  pub one_more : (e : Entry) → Made (system_of w g) Part es (length es) e → (PairStored es e.symbol e.graph → ⊥)
      → (l : List (ℕ × ℕ)) × Distinct l × (length es < length l) × ((q : ℕ × ℕ) → Memᴰ q l → Pair q)
  one_more e m new = (
    (e.symbol, e.graph) ∷ stored,
    (fresh, stored_once),
    omega (arith, length_pairs (told g es) (length es)),
    λ q k.
        ⊎_elim
        (λ h. subst Pair (sym h) (small w g formed few Part es (length es) e m, next_tree w g formed few Part es made e m))
        (stored_pairs_lem q)
        (Memᴰ.cases_cons k),
  )
    where
      fresh : ¬ Memᴰ {A = ℕ × ℕ} (e.symbol, e.graph) (pairs (told g es) (length es))
      fresh k =
          let r = Memᴰ.of_map pair_at (up_from 0 (length es)) k in
          new (record {
            number = r.0;
            among = omega (arith, (up_from_mem 0 (length es) r.1).1);
            symbol = ap (λ (z : ℕ × ℕ). z.0) r.2;
            graph = ap (λ (z : ℕ × ℕ). z.1) r.2;
          })
