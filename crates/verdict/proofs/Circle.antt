-- The circle in a report says what it must. Assumes nothing.
use mathlib.Core.Path.{◌≡◌, refl, sym, ap, ◌∙◌, subst}
use mathlib.Core.List.{List}
use mathlib.Core.Logic.{◌⊎◌, inl, inr}
use Prim.Native.Nat.{ℕ, ◌≤◌}
use native.Mathlib.Omega.{arith}
use lib.ListN.{length, get_or, take, length-append, length-map, length-take, length-replicate}
use Rattle.std.specs.Prelude.{Ok}
use Rattle.grammar.specs.Grammar.{production, rights, edges_of}
use Rattle.grammar.specs.Table.{width_of, grammar_of}
use Rattle.grammar.specs.Rules.{Breaks}
use Rattle.grammar.specs.Refusal.{refusal}
use Rattle.grammar.specs.declared.Broken.{Broken}
use Rattle.grammar.proofs.Lookups.{slots_seven}
use Rattle.graph.specs.declared.Trail.{Trail}
use Rattle.graph.specs.Parts.{most_nodes}
use Rattle.graph.specs.Search.{circle_of}
use Rattle.graph.specs.Marks.{masks_of, marks_of}
use Rattle.graph.specs.Trails.{filled_up, trail_of, circle_trail, no_trail}
use Rattle.graph.proofs.Compound.{length_compound}
use Rattle.graph.proofs.CircleFound.{circle_long}
use Rattle.graph.proofs.Trails.{trail_nodes, trail_marks}
use Rattle.trees.specs.Said.{Said}
use Rattle.parts.specs.Exactly.{Found}
use Rattle.rules.specs.declared.Answer.{Answer}
use Rattle.rules.specs.declared.Answer.TheVariants.{Noncircular, Circular, Refused, OutOfSteps, OutOfRoom}
use Rattle.rules.specs.declared.Entry.{Entry}
use Rattle.rules.specs.Passes.{Outcome, counting, entry, graphs}
use Rattle.rules.specs.Test.{system_in, root_rows, circle_said}
use Rattle.orders.specs.Answers as runs
use Rattle.orders.specs.Stored.{Root}
use Rattle.verdict.specs.Demands.{back, said, answer, entry_of, root_kids}
use Rattle.verdict.specs.Circle.{nodes_said, marks_said, LeastCircleSaid, CircleSaidAlways, NeverBothAlways, CircleWaitsAlways}
use Rattle.verdict.proofs.Obeys.{obeys}
use Rattle.verdict.proofs.Trees.{root_said, root_never_both}
use Rattle.verdict.proofs.Demands.{taken, refused, either, not_refused, sound}

-- ---- what stands in the report

abbrev pub circle_for : List ℕ → Outcome → Trail
circle_for bs o = circle_said (width_of bs) (grammar_of bs) o.entries o.report.root (said o)

pub circle_is : (bs : List ℕ) (limit room : ℕ) → (back bs limit room).report.circle ≡ circle_for bs (back bs limit room)
circle_is bs limit room = go (either bs)
  where
    go : (refusal bs ≡ Ok tt) ⊎ ((b : Broken) × Breaks bs b) → (back bs limit room).report.circle ≡ circle_for bs (back bs limit room)
    go (inl good) = subst (λ (o : Outcome). o.report.circle ≡ circle_for bs o) (sym (taken bs good limit room)) refl
    go (inr (b, h)) = subst (λ (o : Outcome). o.report.circle ≡ circle_for bs o) (sym (refused bs b h limit room)) refl

-- the circle of a root, and the masks that tell its marks
abbrev pub circle_found : List ℕ → Outcome → ℕ → List ℕ
circle_found bs o p = circle_of (root_rows (width_of bs) (grammar_of bs) o.entries p o.report.root)

abbrev pub root_masks : List ℕ → ℕ → List ℕ
root_masks bs p = masks_of (grammar_of bs) (production (grammar_of bs) p)

pub trail_is :
    (bs : List ℕ) (limit room p : ℕ) → answer bs limit room ≡ Circular p
    → (back bs limit room).report.circle ≡ circle_trail (width_of bs) (root_masks bs p) (circle_found bs (back bs limit room) p)
trail_is bs limit room p h =
    let o = back bs limit room in
    circle_is bs limit room ∙ ap (circle_said (width_of bs) (grammar_of bs) o.entries o.report.root) h

none_said : (bs : List ℕ) (es : List Entry) (root : List ℕ) (a : Answer) → ((p : ℕ) → ¬ (a ≡ Circular p))
    → circle_said (width_of bs) (grammar_of bs) es root a ≡ no_trail
none_said bs es root Noncircular n = refl
none_said bs es root (Circular p) n = absurd (n p refl)
none_said bs es root (Refused b) n = refl
none_said bs es root OutOfSteps n = refl
none_said bs es root OutOfRoom n = refl

-- ---- its nodes fill 64 places, whatever the root

filled_long : (n : ℕ) (xs : List ℕ) → length xs ≤ n → length (filled_up n xs) ≡ n
filled_long n xs l = rw (length-append, length-replicate) (omega arith)

module _ (bs : List ℕ) (es : List Entry) (root : List ℕ) where
  rows_few : (p : ℕ) → length (root_rows (width_of bs) (grammar_of bs) es p root) ≤ most_nodes
  rows_few p =
      let ss = (production (grammar_of bs) p).slots in
      let rs = rights (production (grammar_of bs) p) in
      let ks = counting rs root in
      omega (
        arith,
        length_compound (width_of bs) (edges_of (grammar_of bs) p) (graphs es ks),
        length-map ks (λ k. (entry es k).graph),
        length-take (length rs) root,
        length-take (production (grammar_of bs) p).n ss,
        slots_seven bs p,
      )

  pub circle_few : (p : ℕ) → length (circle_of (root_rows (width_of bs) (grammar_of bs) es p root)) ≤ most_nodes
  circle_few p = omega (arith, rows_few p, circle_long (root_rows (width_of bs) (grammar_of bs) es p root))

  nodes_long : (a : Answer) → length (circle_said (width_of bs) (grammar_of bs) es root a).nodes ≡ most_nodes
  unfolding trail_of
  nodes_long Noncircular = refl
  nodes_long (Circular p) = filled_long most_nodes (circle_of (root_rows (width_of bs) (grammar_of bs) es p root)) (circle_few p)
  nodes_long (Refused b) = refl
  nodes_long OutOfSteps = refl
  nodes_long OutOfRoom = refl

pub places_said : (bs : List ℕ) (limit room : ℕ) → length (back bs limit room).report.circle.nodes ≡ most_nodes
places_said bs limit room =
    let o = back bs limit room in
    rw (circle_is bs limit room) (nodes_long bs o.entries o.report.root (said o))

-- ---- what it says of the root

-- a report that holds the circle c with its marks
module _ (bs : List ℕ) (o : Outcome) (masks c : List ℕ) (is : o.report.circle ≡ circle_trail (width_of bs) masks c) where
  pub nodes_are : nodes_said o ≡ c
  nodes_are = ap (λ (t : Trail). take t.len t.nodes) is ∙ trail_nodes (width_of bs) masks c (get_or c 0 0)

  pub marks_are : marks_said o ≡ marks_of (width_of bs) masks c (get_or c 0 0)
  marks_are = ap (λ (t : Trail). take t.len t.marks) is ∙ trail_marks (width_of bs) masks c (get_or c 0 0)

  says_least :
      (p : ℕ) → Said (width_of bs) (grammar_of bs) (entry_of bs o) p (root_kids bs o p) c (marks_of (width_of bs) masks c (get_or c 0 0))
      → LeastCircleSaid bs p o
  unfolding trail_of
  says_least p h = record {
    circle = rw nodes_are h.circle.circle;
    shortest = rw nodes_are h.circle.shortest;
    smallest = rw nodes_are h.circle.smallest;
    least = rw nodes_are h.circle.least;
    edges = rw (nodes_are, marks_are) (λ i l. (h.links i l).edge);
    pairs = rw (nodes_are, marks_are) (λ i l. (h.links i l).pair);
    beyond = rw (nodes_are, marks_are) is;
  }

module _ (bs : List ℕ) (limit room p : ℕ) (h : answer bs limit room ≡ Circular p) where
  abbrev o : Outcome
  o = back bs limit room

  good : refusal bs ≡ Ok tt
  good = not_refused bs limit room (Circular p) h (λ e. omega arith)

  root : Root (system_in bs) (Found (grammar_of bs)) (back bs limit room).entries p (back bs limit room).report.root
  root = subst (runs.Says (system_in bs) (Found (grammar_of bs)) limit room o) h (sound bs good limit room).says

  pub said_of_root :
      let c = circle_found bs (back bs limit room) p in
      Said (width_of bs) (grammar_of bs) (entry_of bs (back bs limit room)) p (root_kids bs (back bs limit room) p) c
      (marks_of (width_of bs) (root_masks bs p) c (get_or c 0 0))
  said_of_root =
      let g = obeys bs good in
      root_said (width_of bs) (grammar_of bs) g.0 g.1 (Found (grammar_of bs)) o.entries (sound bs good limit room).made p
      o.report.root root

pub circle_said_lem : CircleSaidAlways back
circle_said_lem bs limit room =
    let o = back bs limit room in
    record {
      circular = λ p h.
          says_least bs o (root_masks bs p) (circle_found bs o p) (trail_is bs limit room p h) p (said_of_root bs limit room p h);
      else = λ n. circle_is bs limit room ∙ none_said bs o.entries o.report.root (said o) n;
    }

pub never_both : NeverBothAlways back
never_both bs limit room p h =
    let o = back bs limit room in
    let g = obeys bs (good bs limit room p h) in
    root_never_both (width_of bs) (grammar_of bs) g.0 g.1 (Found (grammar_of bs)) o.entries
    (sound bs (good bs limit room p h) limit room).made p o.report.root (root bs limit room p h)

pub circle_waits : CircleWaitsAlways back
circle_waits bs limit room p h n m =
    let o = back bs limit room in
    let nodes = nodes_are bs o (root_masks bs p) (circle_found bs o p) (trail_is bs limit room p h) in
    let w = (said_of_root bs limit room p h).waits n (rw nodes at m) in
    record { value = w.among; circle = w.circle; never = λ {k} {d} r. w.never r }
