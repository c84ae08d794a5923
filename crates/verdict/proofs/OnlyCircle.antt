-- No circle but that of the rules is what is asked for. Assumes nothing.
use mathlib.Core.Bool.{Bool, true, false}
use mathlib.Core.List.{List}
use mathlib.Core.Logic.{◌⊎◌, inl, inr}
use mathlib.Core.Path.{◌≡◌, refl, sym, ap, ap₂, ◌∙◌}
use Prim.Native.Nat.{ℕ, ◌-◌, ◌<◌}
use native.Mathlib.Omega.{arith}
use lib.ListN.{length, get_or, take, replicate, length-take, length-map, length-append, length-replicate}
use lib.Seq.{ext_get_or}
use Rattle.numbers.proofs.Members.{at_map}
use Rattle.grammar.specs.Table.{width_of, grammar_of}
use Rattle.graph.specs.declared.Trail.{Trail}
use Rattle.graph.specs.Parts.{most_nodes}
use Rattle.graph.specs.Marks.{edge_into, mark_of, mark_into, targets_of, marks_of}
use Rattle.graph.specs.Trails.{filled_up}
use Rattle.graph.proofs.Marks.{length_marks}
use Rattle.graph.proofs.OnlyOne.{circle_only}
use Rattle.rules.specs.declared.Answer.{Answer}
use Rattle.rules.specs.declared.Answer.TheVariants.{Noncircular, Circular, Refused, OutOfSteps, OutOfRoom}
use Rattle.rules.specs.Passes.{Outcome}
use Rattle.rules.specs.Test.{root_rows}
use Rattle.verdict.specs.Demands.{back, answer}
use Rattle.verdict.specs.Circle.{nodes_said, marks_said, LeastCircleSaid, with_circle, OnlyCircle}
use Rattle.verdict.proofs.Circle.{circle_found, root_masks, circle_few, trail_is, nodes_are, marks_are, circle_said_lem}

-- a mark is one of two numbers
mark_either : (w : ℕ) (masks c : List ℕ) (y i : ℕ) → i < length c
    → (get_or (marks_of w masks c y) i 0 ≡ 1) ⊎ (get_or (marks_of w masks c y) i 0 ≡ 0)
mark_either w masks c y i l = go (edge_into w masks (get_or (targets_of c y) i 0)) refl
  where
    at : get_or (marks_of w masks c y) i 0 ≡ mark_into w masks (get_or (targets_of c y) i 0)
    at =
        at_map (mark_into w masks) 0 0 (targets_of c y) i
        (omega (arith, length_marks w masks c y, length-map (targets_of c y) (mark_into w masks)))

    go : (b : Bool) → edge_into w masks (get_or (targets_of c y) i 0) ≡ b
        → (get_or (marks_of w masks c y) i 0 ≡ 1) ⊎ (get_or (marks_of w masks c y) i 0 ≡ 0)
    go true e = inl (at ∙ ap mark_of e)
    go false e = inr (at ∙ ap mark_of e)

module _ (bs : List ℕ) (limit room p : ℕ) (t : Trail) (h : answer bs limit room ≡ Circular p)
    (d : LeastCircleSaid bs p (with_circle t (back bs limit room))) where
  abbrev o : Outcome
  o = back bs limit room

  abbrev c : List ℕ
  c = take t.len t.nodes

  abbrev ms : List ℕ
  ms = take t.len t.marks

  found : take t.len t.nodes ≡ circle_found bs (back bs limit room) p
  found =
      circle_only (root_rows (width_of bs) (grammar_of bs) o.entries p o.report.root) c
      (inl (record { circle = d.circle; shortest = d.shortest; smallest = d.smallest; least = d.least }))

  same_nodes : nodes_said (back bs limit room) ≡ take t.len t.nodes
  same_nodes = nodes_are bs o (root_masks bs p) (circle_found bs o p) (trail_is bs limit room p h) ∙ sym found

  marks_of_lem : marks_said (back bs limit room)
      ≡ marks_of (width_of bs) (root_masks bs p) (take t.len t.nodes) (get_or (take t.len t.nodes) 0 0)
  marks_of_lem =
      marks_are bs o (root_masks bs p) (circle_found bs o p) (trail_is bs limit room p h)
      ∙ ap (λ (z : List ℕ). marks_of (width_of bs) (root_masks bs p) z (get_or z 0 0)) (sym found)

  -- there are as many marks as nodes, because there are places for both
  as_many : length (take t.len t.marks) ≡ length (take t.len t.nodes)
  as_many =
      omega (
        arith,
        ap (λ (z : Trail). z.len) d.beyond,
        ap (λ (z : Trail). length z.marks) d.beyond,
        length-append ms (replicate (most_nodes - length ms) 0),
        length-replicate {A = ℕ} (most_nodes - length ms) 0,
        length-take t.len t.marks,
        ap length found,
        circle_few bs o.entries o.report.root p,
      )

  same_mark : (i : ℕ) → i < length (take t.len t.nodes) → get_or (take t.len t.marks) i 0 ≡ get_or (marks_said (back bs limit room)) i 0
  same_mark i l = go (rw (← marks_of_lem) at (mark_either (width_of bs) (root_masks bs p) c (get_or c 0 0) i l))
    where
      e : LeastCircleSaid bs p (back bs limit room)
      e = (circle_said_lem bs limit room).circular p h

      go : (get_or (marks_said (back bs limit room)) i 0 ≡ 1) ⊎ (get_or (marks_said (back bs limit room)) i 0 ≡ 0)
          → get_or (take t.len t.marks) i 0 ≡ get_or (marks_said (back bs limit room)) i 0
      go (inl k) = (d.edges i l).1 (rw same_nodes at ((e.edges i (rw same_nodes l)).0 k)) ∙ sym k
      go (inr k) = (d.pairs i l).1 (rw same_nodes at ((e.pairs i (rw same_nodes l)).0 k)) ∙ sym k

  same_circle : t ≡ (back bs limit room).report.circle
  same_circle =
      let m : ms ≡ marks_said o =
      ext_get_or 0 ms (marks_said o)
      (as_many ∙ sym (length_marks (width_of bs) (root_masks bs p) c (get_or c 0 0)) ∙ ap length (sym marks_of_lem))
      (λ i l. same_mark i (omega (arith, as_many))) in
      d.beyond
      ∙ ap₂ (λ (z zs : List ℕ). record { nodes = filled_up most_nodes z; marks = filled_up most_nodes zs; len = length z }) (sym same_nodes) m
      ∙ sym ((circle_said_lem bs limit room).circular p h).beyond

pub only_circle : OnlyCircle
only_circle bs limit room t d = go (answer bs limit room) refl
  where
    none : ((p : ℕ) → ¬ (answer bs limit room ≡ Circular p)) → t ≡ (back bs limit room).report.circle
    none n = d.else n ∙ sym ((circle_said_lem bs limit room).else n)

    go : (a : Answer) → answer bs limit room ≡ a → t ≡ (back bs limit room).report.circle
    go (Circular p) h = same_circle bs limit room p t h (d.circular p h)
    go Noncircular h = none (λ p e. let z : ◌≡◌ {A = ℕ} 0 1 = cc in omega arith)
    go (Refused b) h = none (λ p e. let z : ◌≡◌ {A = ℕ} 0 1 = cc in omega arith)
    go OutOfSteps h = none (λ p e. let z : ◌≡◌ {A = ℕ} 0 1 = cc in omega arith)
    go OutOfRoom h = none (λ p e. let z : ◌≡◌ {A = ℕ} 0 1 = cc in omega arith)
