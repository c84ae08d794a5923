-- Counting the different pairs of root symbol and graph that trees have. Assumes nothing.
use mathlib.Core.List.Memᴰ
use mathlib.Core.List.{List, Memᴰ}
use mathlib.Core.Logic.Iff
use mathlib.Core.Logic.{◌↔◌}
use mathlib.Core.Path.{◌≡◌, ◌∙◌, ap, subst}
use Prim.Native.Nat.{ℕ, ◌*◌, ◌^◌, ◌≤◌, ◌<◌}
use native.Mathlib.Omega.{arith}
use lib.ListN.{length, length-map}
use Rattle.numbers.specs.Lists.{up_from, Distinct}
use Rattle.grammar.specs.Grammar.{Grammar}
use Rattle.trees.specs.Tree.{Tree}
use Rattle.trees.specs.Compound.{IsGraph, NumberHolds}
use Rattle.trees.specs.Record.{Entry, shown_entry, pairs, OfTree, Derived, Saturated}
use Rattle.numbers.proofs.Ranges.{length_up_from}
use Rattle.numbers.proofs.Members.{up_from_mem}
use Rattle.numbers.proofs.Pigeons.{pigeons_numbered}
use Rattle.numbers.proofs.Distinct.{distinct_up_from, distinct_map}
use Rattle.trees.proofs.Shown.{entry_shown}
use Rattle.trees.proofs.Saturation.{all_stored}
use Rattle.trees.proofs.Numbers.{told_apart}

-- a record in which no two entries have the same symbol and graph shows as many different pairs as it has entries

module _ {Graph : Type 0} (entry : ℕ → Entry Graph) (count : ℕ) where
  pub length_pairs : length (pairs entry count) ≡ count
  length_pairs = length-map (up_from 0 count) (λ k. ((entry k).symbol, (entry k).graph)) ∙ length_up_from 0 count

  below : (k : ℕ) → Memᴰ k (up_from 0 count) → k < count
  below k m = omega (arith, (up_from_mem 0 count m).1)

  pub pairs_differ :
      ((j k : ℕ) → j < count → k < count → (entry j).symbol ≡ (entry k).symbol → (entry j).graph ≡ (entry k).graph → j ≡ k)
      → Distinct (pairs entry count)
  pairs_differ h =
      distinct_map (λ k. ((entry k).symbol, (entry k).graph)) (up_from 0 count)
      (λ j k m n e. h j k (below j m) (below k n) (ap (λ (q : ℕ × Graph). q.0) e) (ap (λ (q : ℕ × Graph). q.1) e))
      (distinct_up_from 0 count)

  pub pairs_of_trees :
      (g : Grammar) (Holds : Graph → ℕ → ℕ → Type 0) (Part : ℕ → Type 0)
      → ((k : ℕ) → k < count → Derived g Holds Part entry k)
      → (q : ℕ × Graph) → Memᴰ q (pairs entry count) → OfTree g Holds Part q
  pairs_of_trees g Holds Part derived q m =
      let r = Memᴰ.of_map (λ k. ((entry k).symbol, (entry k).graph)) (up_from 0 count) m in
      subst (OfTree g Holds Part) r.2
      (shown_entry entry r.0, entry_shown g Holds Part entry count derived r.0 (below r.0 r.1))

-- different pairs of trees are no more than the entries of a saturated store
module _
    (g : Grammar) {Graph : Type 0} (Holds : Graph → ℕ → ℕ → Type 0) (Part : ℕ → Type 0) (entry : ℕ → Entry Graph) (count : ℕ)
    -- the graphs that may be stored are told apart by their pairs
    (Small : Graph → Type 0)
    (apart : (x y : Graph) → Small x → Small y → ((a b : ℕ) → Holds x a b ↔ Holds y a b) → x ≡ y)
    (small : (k : ℕ) → k < count → Small (entry k).graph) where
  -- a tree has only one graph
  pub one_graph : (x y : Graph) → Small x → Small y → (t : Tree) → IsGraph g Holds x t → IsGraph g Holds y t → x ≡ y
  one_graph x y sx sy t hx hy = apart x y sx sy (λ a b. Iff.trans (hx a b) (Iff.symm (hy a b)))

  pub counting :
      Saturated g Holds Part entry count
      → (l : List (ℕ × Graph)) → Distinct l → ((q : ℕ × Graph) → Memᴰ q l → Small q.1 × OfTree g Holds Part q)
      → length l ≤ count
  counting saturated l d h = pigeons_numbered (λ k. ((entry k).symbol, (entry k).graph)) count l d (λ q m. hole q (h q m).0 (h q m).1)
    where
      hole :
          (q : ℕ × Graph) → Small q.1 → OfTree g Holds Part q
          → (k : ℕ) × (k < count) × (◌≡◌ {A = ℕ × Graph} ((entry k).symbol, (entry k).graph) q)
      hole q s (t, o) =
          let k = all_stored g Holds Part entry count saturated t o.complete in
          let e = one_graph (entry k.number).graph q.1 (small k.number k.among) s t k.graph o.is_graph in
          (k.number, k.among, λ i. ((k.symbol ∙ o.symbol) i, e i))

-- for graphs that are numbers
pub counting_numbers :
    (g : Grammar) (w : ℕ) (Part : ℕ → Type 0) (entry : ℕ → Entry ℕ) (count : ℕ)
    → ((k : ℕ) → k < count → (entry k).graph < 2 ^ (w * w))
    → Saturated g (NumberHolds w) Part entry count
    → (l : List (ℕ × ℕ)) → Distinct l → ((q : ℕ × ℕ) → Memᴰ q l → (q.1 < 2 ^ (w * w)) × OfTree g (NumberHolds w) Part q)
    → length l ≤ count
counting_numbers g w Part entry count small = counting g (NumberHolds w) Part entry count (λ x. x < 2 ^ (w * w)) (told_apart w) small
