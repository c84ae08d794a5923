-- From what the passes store to trees: each entry is derived, a circular root has a circle and says it, a saturated store has every tree.
-- Over the number w of attributes and the productions that take part, for any outcome that is sound. Assumes nothing.
use mathlib.Core.Path.{◌≡◌, sym, ◌∙◌, subst}
use mathlib.Core.Bool.{true≢false}
use mathlib.Core.List.{List, Memᴰ}
use Prim.Native.Nat.{ℕ, ◌*◌, ◌^◌, ◌<◌}
use lib.ListN.{length, get_or}
use Rattle.numbers.specs.Paths.{Circle}
use Rattle.grammar.specs.Grammar.{Grammar, production, rights, edges_of}
use Rattle.graph.specs.Compound.{OwnEdge, SubtreePair}
use Rattle.graph.specs.Search.{circle_of}
use Rattle.graph.specs.Marks.{masks_of, marks_of}
use Rattle.graph.proofs.Root.{root_lt}
use Rattle.graph.proofs.Marks.{never_both}
use Rattle.trees.specs.Tree.{Complete, TreeEdge, WellFormed, AtMost}
use Rattle.trees.specs.Compound.{Makes, NumberHolds}
use Rattle.trees.specs.Record as record_of_trees
use Rattle.trees.specs.Record.{shown_entry, shown, Derived, Shows, OfTree}
use Rattle.trees.specs.Said.{Said}
use Rattle.trees.proofs.Shown.{fits_below, graphs_count, entry_shown, shown_complete, shown_graph, shown_circle, shown_again}
use Rattle.trees.proofs.EndsUp.{within, all_allowed, entries_end_up}
use Rattle.trees.proofs.Saying.{circle_said_lem}
use Rattle.rules.specs.declared.Entry.{Entry}
use Rattle.rules.specs.Passes.{System, entry, graphs, counting}
use Rattle.rules.specs.Test.{closed, system_of, root_rows}
use Rattle.orders.specs.Stored.{Combination, Made, Root, AllMade}
use Rattle.verdict.specs.Demands.{told}
use Rattle.verdict.proofs.Bridge.{circle_so, graph_so}

module _ (w : ℕ) (g : Grammar) (formed : WellFormed g) (few : AtMost w g) (Part : ℕ → Type 0) where
  abbrev W : System
  W = system_of w g

  -- a combination has a graph for each right symbol
  counted : (es : List Entry) (n p : ℕ) (c : List ℕ) → Combination es n c (rights (production g p)) → length (graphs es c) ≡ (production g p).n
  counted es n p c f = graphs_count g formed (told g es) n p c f

  -- what is made of entries: the graph that its production makes of theirs, a number of w * w bits
  module _ (es : List Entry) (n : ℕ) (e : Entry) (m : Made (system_of w g) Part es n e) where
    abbrev kids : List ℕ
    kids = counting (rights (production g e.production)) e.kids

    made_fits : record_of_trees.KidsBelow (told g es) n (counting (rights (production g e.production)) e.kids) (rights (production g e.production))
    unfolding system_of
    made_fits = m.kids.fits

    made_graph : Makes g (NumberHolds w) e.production (graphs es (counting (rights (production g e.production)) e.kids)) e.graph
    unfolding system_of
    made_graph =
        subst (Makes g (NumberHolds w) e.production (graphs es kids)) (sym m.graph)
        (graph_so w g formed few e.production (graphs es kids) (counted es n e.production kids m.kids.fits))

    made_left : (production g e.production).left ≡ e.symbol
    unfolding system_of
    made_left = sym m.symbol

    pub small : e.graph < 2 ^ (w * w)
    unfolding system_of
    small = rw m.graph (root_lt w (closed w g e.production (graphs es kids)))

  pub derived : (es : List Entry) (k : ℕ) → Made (system_of w g) Part es k (entry es k)
      → Derived g (NumberHolds w) Part (told g es) k
  derived es k m =
      let e = entry es k in
      record {
        part = m.kids.part;
        left = made_left es k e m;
        right = made_fits es k e m;
        made = made_graph es k e m;
      }

  module _ (es : List Entry) (made : (k : ℕ) → k < length es → Made (system_of w g) Part es k (entry es k)) where
    pub all_derived : (k : ℕ) → k < length es → Derived g (NumberHolds w) Part (told g es) k
    all_derived k l = derived es k (made k l)

    -- the tree of each entry is complete, with its symbol and graph
    pub entry_shows : (k : ℕ) → k < length es
        → Shows g (NumberHolds w) Part (told g es k).symbol (told g es k).graph (shown_entry (told g es) k)
    entry_shows = entry_shown g (NumberHolds w) Part (told g es) (length es) all_derived

    -- its number has w * w bits
    pub low : (k : ℕ) → k < length es → (entry es k).graph < 2 ^ (w * w)
    low k l = small es k (entry es k) (made k l)

    -- each number is smaller than its parent's
    pub earlier : (k : ℕ) → k < length es → (j : ℕ) → Memᴰ j (told g es k).kids → j < k
    earlier k l = fits_below (told g es) k (told g es k).kids (rights (production g (entry es k).production)) (all_derived k l).right

    pub again : (k : ℕ) → k < length es → shown_entry (told g es) k ≡ shown (told g es) (told g es k).production (told g es k).kids
    again = shown_again g (NumberHolds w) Part (told g es) (length es) all_derived

    -- what is made of all entries is a pair of some tree
    pub next_tree : (e : Entry) → Made (system_of w g) Part es (length es) e
        → OfTree g (NumberHolds w) Part (e.symbol, e.graph)
    next_tree e m =
        let p = e.production in
        let c = counting (rights (production g p)) e.kids in (
          shown (told g es) p c,
          subst (λ (s : ℕ). Shows g (NumberHolds w) Part s e.graph (shown (told g es) p c)) (made_left es (length es) e m)
              (shown_graph g (NumberHolds w) Part (told g es) (length es) all_derived p c m.kids.part
              (made_fits es (length es) e m) e.graph (made_graph es (length es) e m)),
        )

    -- the tree that a circular root shows
    module _ (p : ℕ) (slots : List ℕ) (root : Root (system_of w g) Part es p slots) where
      root_fits : record_of_trees.KidsBelow (told g es) (length es) (counting (rights (production g p)) slots) (rights (production g p))
      unfolding system_of
      root_fits = root.kids.fits

      pub root_earlier : (j : ℕ) → Memᴰ j (counting (rights (production g p)) slots) → j < length es
      root_earlier = fits_below (told g es) (length es) (counting (rights (production g p)) slots) (rights (production g p)) root_fits

      pub root_complete : Complete g Part (shown (told g es) p (counting (rights (production g p)) slots))
      root_complete =
          shown_complete g (NumberHolds w) Part (told g es) (length es) all_derived p (counting (rights (production g p)) slots)
          root.kids.part root_fits

      pub root_circle : Circle (TreeEdge g (shown (told g es) p (counting (rights (production g p)) slots)))
      unfolding system_of
      root_circle =
          shown_circle g (NumberHolds w) Part (told g es) (length es) all_derived p (counting (rights (production g p)) slots)
          root.kids.part root_fits
          ((circle_so w g formed few p (graphs es (counting (rights (production g p)) slots)) (counted es (length es) p (counting (rights (production g p)) slots) root.kids.fits)).0
          root.round)

      -- what the circle of its compound graph says
      pub root_said :
          let c = circle_of (root_rows w g es p slots) in
          Said w g (told g es) p (counting (rights (production g p)) slots) c (marks_of w (masks_of g (production g p)) c (get_or c 0 0))
      unfolding system_of
      root_said =
          circle_said_lem w g formed few Part (told g es) (length es) all_derived p (counting (rights (production g p)) slots) root_fits
          root.kids.part root.round

      -- no link is both an edge and a pair
      pub root_never_both : (i j : ℕ) → OwnEdge w (edges_of g p) i j → ¬ SubtreePair w 1 (graphs es (counting (rights (production g p)) slots)) i j
      root_never_both =
          let ks = counting (rights (production g p)) slots in
          never_both w (edges_of g p) (graphs es ks) (masks_of g (production g p))
          (within w g formed few p (graphs es ks) (counted es (length es) p ks root_fits)) (all_allowed w g formed few p (graphs es ks))
          (entries_end_up w g formed few Part (told g es) (length es) all_derived p ks root_fits)

  -- a store to which nothing is left to add
  pub saturated : (es : List Entry) → AllMade (system_of w g) Part es
      → record_of_trees.Saturated g (NumberHolds w) Part (told g es) (length es)
  unfolding system_of
  saturated es s = record {
    no_circle = λ p part c f h.
        true≢false
        (sym ((circle_so w g formed few p (graphs es c) (counted es (length es) p c f)).1 h) ∙ (s p part c f).0);
    stored = λ p part c f.
        let h = (s p part c f).1 in
        record {
          number = h.number;
          among = h.among;
          symbol = h.symbol;
          graph =
              subst (Makes g (NumberHolds w) p (graphs es c)) (sym h.graph)
              (graph_so w g formed few p (graphs es c) (counted es (length es) p c f));
        };
  }
