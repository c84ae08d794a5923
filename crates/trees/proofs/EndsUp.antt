-- The edges of a production lead where the rules allow it, and the pairs of an entry's graph end in synthesized attributes of its symbol: so the
-- links of a compound graph over entries are what their marks say. Over the number w of attributes. Assumes nothing.
use mathlib.Core.List.{List, [], ◌∷◌}
use mathlib.Core.Path.{◌≡◌}
use Prim.Native.Nat.{ℕ, zero, suc, ◌+◌, ◌*◌, ◌<◌}
use native.Mathlib.Omega.{arith}
use lib.ListN.{length, get_or}
use Rattle.grammar.specs.Grammar.{Grammar, symbol, production, rights, symbol_at, edges_of}
use Rattle.graph.specs.Compound.{EdgesWithin}
use Rattle.graph.specs.Marks.{masks_of, AllAllowed, EndsUp, KidsEndUp}
use Rattle.graph.proofs.Marks.{mask_at, path_ends_up}
use Rattle.trees.specs.Tree.{WellFormed, AtMost}
use Rattle.trees.specs.Compound.{Makes, NumberHolds}
use Rattle.trees.specs.Record.{Entry, KidsBelow, graphs_at, Derived}
use Rattle.trees.proofs.Numbers.{source_below, target_below, own_edge, numbered_paths}
use Rattle.trees.proofs.Shown.{graphs_count}

module _ (w : ℕ) (g : Grammar) (formed : WellFormed g) (few : AtMost w g) where
  module _ (p : ℕ) (graphs : List ℕ) where
    pub all_allowed : AllAllowed (edges_of g p) (masks_of g (production g p))
    all_allowed e m =
        let k = own_edge w g formed few p graphs e m in
        let h = formed.edges e k.0 in
        rw (mask_at g (production g p) e.target.occurrence (rw k.1 at h.target.occurrence)) (rw k.1 at h.allowed)

    module _ (count : length graphs ≡ (production g p).n) where
      pub within : EdgesWithin w (length graphs) (edges_of g p)
      within e m =
          let k = own_edge w g formed few p graphs e m in
          let h = formed.edges e k.0 in (
            record { occurrence = rw (count, ← k.1) h.source.occurrence; attribute = source_below w g formed few p graphs e k.0 },
            record { occurrence = rw (count, ← k.1) h.target.occurrence; attribute = target_below w g formed few p graphs e k.0 },
          )

      -- the pairs of what a production makes, whatever it is made of
      pub made_ends_up : (graph : ℕ) → Makes g (NumberHolds w) p graphs graph → EndsUp w (symbol g (production g p).left).mask graph
      unfolding symbol_at
      made_ends_up graph made a b la lb h =
          let za : w * 0 + a ≡ a = omega arith in
          let zb : w * 0 + b ≡ b = omega arith in
          let r = (numbered_paths w g formed few p graphs 0 a 0 b la lb).0 ((made a b).0 (record { from = la; to = lb; worth = h })) in
          rw (mask_at g (production g p) 0 (omega arith)) at
          (path_ends_up w (edges_of g p) graphs (masks_of g (production g p)) within all_allowed a b lb (rw (za, zb) at r))

  -- ---- over derived entries
  module _ (Part : ℕ → Type 0) (entry : ℕ → Entry ℕ) where
    pub entry_ends_up : (k : ℕ) → Derived g (NumberHolds w) Part entry k → EndsUp w (symbol g (entry k).symbol).mask (entry k).graph
    entry_ends_up k d =
        let p = (entry k).production in
        let ks = (entry k).kids in
        rw d.left at (made_ends_up p (graphs_at entry ks) (graphs_count g formed entry k p ks d.right) (entry k).graph d.made)

    module _ (n : ℕ) (derived : (k : ℕ) → k < n → Derived g (NumberHolds w) Part entry k) where
      kids_end_up : (ks ss : List ℕ) → KidsBelow entry n ks ss
          → (i : ℕ) → i < length (graphs_at entry ks) → EndsUp w (symbol g (get_or ss i 0)).mask (get_or (graphs_at entry ks) i 0)
      kids_end_up [] [] f i l = absurd (omega arith)
      kids_end_up [] (s ∷ ss) f i l = absurd f
      kids_end_up (k ∷ ks) [] f i l = absurd f
      kids_end_up (k ∷ ks) (s ∷ ss) f zero l = rw f.1 at (entry_ends_up k (derived k f.0))
      kids_end_up (k ∷ ks) (s ∷ ss) f (suc i) l = kids_end_up ks ss f.2 i (omega arith)

      -- so a compound graph over entries has what the marks ask for
      pub entries_end_up : (p : ℕ) (ks : List ℕ) → KidsBelow entry n ks (rights (production g p))
          → KidsEndUp w (masks_of g (production g p)) (graphs_at entry ks)
      unfolding symbol_at
      entries_end_up p ks f k l =
          rw (mask_at g (production g p) (suc k) (omega (arith, graphs_count g formed entry n p ks f)))
          (kids_end_up ks (rights (production g p)) f k l)
