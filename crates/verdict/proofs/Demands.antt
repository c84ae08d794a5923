-- The demands, proved. Assumes nothing.
use mathlib.Core.Path.{◌≡◌, refl, sym, ap, ◌∙◌, subst, subst₂}
use mathlib.Core.List.{List}
use mathlib.Core.Logic.{◌⊎◌, inl, inr}
use Prim.Native.Nat.{ℕ}
use native.Mathlib.Omega.{arith}
use lib.ListN.{length}
use Rattle.std.specs.Prelude.{Ok, Err}
use Rattle.grammar.specs.Grammar.{Grammar}
use Rattle.grammar.specs.Table.{width_of, grammar_of}
use Rattle.grammar.specs.Rules.{Breaks}
use Rattle.grammar.specs.Refusal.{Checked, refusal}
use Rattle.grammar.proofs.Refused as rules_shown
use Rattle.trees.specs.Tree.{Tree, InTable, WellFormed}
use Rattle.trees.specs.Compound.{NumberHolds}
use Rattle.trees.specs.Evaluator.{Evaluator}
use Rattle.trees.specs.Record as record_of_trees
use Rattle.trees.proofs.Saturation.{none_circular}
use Rattle.trees.proofs.Evaluators as evaluators
use Rattle.trees.proofs.Starts.{from_complete, circle_inside, circle_from_start, from_root}
use Rattle.parts.specs.Rule.{taking}
use Rattle.parts.specs.Exactly.{Found}
use Rattle.grammar.specs.declared.Broken.{Broken}
use Rattle.rules.specs.declared.Answer.{Answer}
use Rattle.rules.specs.declared.Answer.TheVariants.{Noncircular, Circular, Refused, OutOfSteps, OutOfRoom}
use Rattle.rules.specs.Passes.{Outcome, outcome, entry, no_root, empty, pass, passes_from, passes}
use Rattle.rules.specs.Test.{system_in, saying, after_check, test}
use Rattle.orders.specs.Answers as runs
use Rattle.orders.proofs.Answers as runs_shown
use Rattle.verdict.specs.Demands.{back, said, answer, NoRuleBroken, TreeOf, StartTree, HasCircle, SomeCircle, told, entry_tree, shown_tree, RefusedExactlyAlways, EntryShown, EntriesShownAlways, CircularShown, CircularShownAlways, NoncircularNoneAlways, NothingTriedAlways, LimitsKept, LimitsKeptAlways, StepsExactly, StepsExactlyAlways, RoomExactly, RoomExactlyAlways, RoomCounts, RoomCountsAlways, play_end, Finishes, NeverStill, NeverStillAlways, GetsStuck, StandsStillLeft, StandsStillLeftAlways, StandsStillAboveAlways, PassesFollowed}
use Rattle.verdict.proofs.Obeys.{obeys, exact}
use Rattle.verdict.proofs.Saying.{sound_still, steps_still, room_still}
use Rattle.verdict.proofs.Trees.{entry_shows, low, earlier, again, root_complete, root_circle, root_earlier, saturated}
use Rattle.verdict.proofs.Words.{graph_of, tree_pair, of_tree}
use Rattle.verdict.proofs.Room.{stored_once, stored_pairs_lem, pairs_stored, no_more, one_more}

-- ---- the cases of an answer are told apart
abbrev pub case : Answer → ℕ
case Noncircular = 0
case (Circular p) = 1
case (Refused k) = 2
case OutOfSteps = 3
case OutOfRoom = 4

module _ (bs : List ℕ) where
  abbrev ran : ℕ → ℕ → Outcome
  ran limit room = passes (system_in bs) limit room (taking (grammar_of bs))

  -- either the passes are run and the circle is said, or the table breaks a rule
  pub taken : refusal bs ≡ Ok tt → (limit room : ℕ) → back bs limit room ≡ saying (width_of bs) (grammar_of bs) (ran limit room)
  unfolding test after_check
  taken e limit room =
      ap (λ (c : Checked). after_check c (saying (width_of bs) (grammar_of bs) (ran limit room))) e

  pub refused : (b : Broken) → Breaks bs b → (limit room : ℕ) → back bs limit room ≡ outcome (Refused b) no_root empty 0
  unfolding test after_check
  refused b h limit room = rw ((rules_shown.refused_exactly bs b).1 h)

  pub either : (refusal bs ≡ Ok tt) ⊎ ((b : Broken) × Breaks bs b)
  either = go (refusal bs) refl
    where
      go : (c : Checked) → refusal bs ≡ c → (refusal bs ≡ Ok tt) ⊎ ((b : Broken) × Breaks bs b)
      go (Ok u) e = inl e
      go (Err b) e = inr (b, (rules_shown.refused_exactly bs b).0 e)

  when_unbroken : NoRuleBroken bs → refusal bs ≡ Ok tt
  when_unbroken n = go either
    where
      go : (refusal bs ≡ Ok tt) ⊎ ((b : Broken) × Breaks bs b) → refusal bs ≡ Ok tt
      go (inl e) = e
      go (inr (b, h)) = absurd (n b h)

  -- an answer other than a refusal is that of the passes
  pub not_refused : (limit room : ℕ) (a : Answer) → answer bs limit room ≡ a → ¬ (case a ≡ 2) → refusal bs ≡ Ok tt
  not_refused limit room a h n = go either
    where
      go : (refusal bs ≡ Ok tt) ⊎ ((k : Broken) × Breaks bs k) → refusal bs ≡ Ok tt
      go (inl e) = e
      go (inr (k, b)) = absurd (n (ap case (sym h) ∙ ap (λ (o : Outcome). case o.report.answer) (refused k b limit room)))

  module _ (good : refusal bs ≡ Ok tt) where
    pub sound : (limit room : ℕ) → runs.Sound (system_in bs) (Found (grammar_of bs)) limit room (back bs limit room)
    sound limit room =
        let W = system_in bs in
        subst (runs.Sound W (Found (grammar_of bs)) limit room) (sym (taken good limit room))
        (sound_still (width_of bs) (grammar_of bs) W (Found (grammar_of bs)) limit room (ran limit room)
        (runs_shown.outcome_sound W (taking (grammar_of bs)) limit room))

-- ---- demand 1
pub refused_exactly : RefusedExactlyAlways back
refused_exactly bs limit room k = record {
  exactly = (λ h. go h (either bs), λ b. ap said (refused bs k b limit room));
  nothing = λ b. refused bs k b limit room;
}
  where
    sound_answer : refusal bs ≡ Ok tt
        → runs.Says (system_in bs) (Found (grammar_of bs)) limit room (ran bs limit room) (said (ran bs limit room))
    sound_answer e = (runs_shown.outcome_sound (system_in bs) (taking (grammar_of bs)) limit room).says

    go : answer bs limit room ≡ Refused k → (refusal bs ≡ Ok tt) ⊎ ((j : Broken) × Breaks bs j) → Breaks bs k
    go h (inl e) =
        absurd
        (subst (runs.Says (system_in bs) (Found (grammar_of bs)) limit room (ran bs limit room))
        (ap said (sym (taken bs e limit room)) ∙ h) (sound_answer e))
    go h (inr (j, b)) =
        let q : Refused j ≡ Refused k = ap said (sym (refused bs j b limit room)) ∙ h in
        let n : j ≡ k = cc in
        subst (Breaks bs) n b

-- ---- demand 2
pub entries_shown : EntriesShownAlways back
entries_shown bs limit room k l = go (either bs)
  where
    go : (refusal bs ≡ Ok tt) ⊎ ((k : Broken) × Breaks bs k) → EntryShown bs k (back bs limit room)
    go (inl good) =
        let g = grammar_of bs in
        let o = obeys bs good in
        let es = (back bs limit room).entries in
        let s = sound bs good limit room in
        let h = entry_shows (width_of bs) g o.0 o.1 (Found g) es s.made k l in
        let from = ((exact bs good).subtrees (entry_tree bs (back bs limit room) k)).0 h.complete in
        record {
          complete = from_complete g (entry_tree bs (back bs limit room) k) from;
          from_start = from;
          symbol = h.symbol;
          graph = graph_of bs (entry_tree bs (back bs limit room) k) (entry es k).graph (low (width_of bs) g o.0 o.1 (Found g) es s.made k l) h.is_graph;
          earlier = earlier (width_of bs) g o.0 o.1 (Found g) es s.made k l;
          again = again (width_of bs) g o.0 o.1 (Found g) es s.made k l;
        }
    go (inr (j, b)) = absurd (omega (arith, ap (λ (o : Outcome). length o.entries) (refused bs j b limit room)))

pub circular_shown : CircularShownAlways back
circular_shown bs limit room p h =
    let g = grammar_of bs in
    let good = not_refused bs limit room (Circular p) h (λ e. omega arith) in
    let o = obeys bs good in
    let es = (back bs limit room).entries in
    let slots = (back bs limit room).report.root in
    let s = sound bs good limit room in
    let root = subst (runs.Says (system_in bs) (Found g) limit room (back bs limit room)) h s.says in
    let complete = root_complete (width_of bs) g o.0 o.1 (Found g) es s.made p slots root in
    let from = ((exact bs good).subtrees (shown_tree bs (back bs limit room) p)).0 complete in
    record {
      complete = from_complete g (shown_tree bs (back bs limit room) p) from;
      from_start = from;
      circle = root_circle (width_of bs) g o.0 o.1 (Found g) es s.made p slots root;
      earlier = root_earlier (width_of bs) g o.0 o.1 (Found g) es s.made p slots root;
    }

-- after noncircular the store has every tree of productions that take part
full : (bs : List ℕ) (limit room : ℕ) → answer bs limit room ≡ Noncircular
    → record_of_trees.Saturated (grammar_of bs) (NumberHolds (width_of bs)) (Found (grammar_of bs)) (told (grammar_of bs) (back bs limit room).entries)
    (length (back bs limit room).entries)
full bs limit room h =
    let good = not_refused bs limit room Noncircular h (λ e. omega arith) in
    let s = sound bs good limit room in
    saturated (width_of bs) (grammar_of bs) (obeys bs good).0 (obeys bs good).1 (Found (grammar_of bs)) (back bs limit room).entries
    (subst (runs.Says (system_in bs) (Found (grammar_of bs)) limit room (back bs limit room)) h s.says).0

pub noncircular_none : NoncircularNoneAlways back
noncircular_none bs limit room h c =
    none_circular (grammar_of bs) (NumberHolds (width_of bs)) (Found (grammar_of bs)) (told (grammar_of bs) (back bs limit room).entries)
    (length (back bs limit room).entries) (full bs limit room h)
    ((exact bs (not_refused bs limit room Noncircular h (λ e. omega arith))).circular.1 c)

-- and after circular some tree from the start symbol has a circle: the one that has the shown tree at some address
pub some_circle : (bs : List ℕ) (p : ℕ) (o : Outcome) → CircularShown bs p o → SomeCircle bs
some_circle bs p o c = circle_from_start (grammar_of bs) (shown_tree bs o p) c.from_start c.circle

pub start_without_tree : NothingTriedAlways back
unfolding pass passes_from passes
start_without_tree bs limit room unbroken none =
    let good = when_unbroken bs unbroken in
    taken bs good limit room ∙ rw ((exact bs good).nothing none)

pub limits_kept : LimitsKeptAlways back
limits_kept bs limit R = go (either bs)
  where
    go : (refusal bs ≡ Ok tt) ⊎ ((k : Broken) × Breaks bs k) → LimitsKept limit R (back bs limit R)
    go (inl e) =
        let s = sound bs e limit R in
        let says = runs.Says (system_in bs) (Found (grammar_of bs)) limit R (back bs limit R) in
        record {
          closures = s.closures;
          entries = s.entries;
          counted = s.counted;
          at_limit = λ h. (subst says h s.says).0;
          at_room = λ h. (subst says h s.says).0;
        }
    go (inr (k, b)) =
        subst (LimitsKept limit R) (sym (refused bs k b limit R))
        (record {
          closures = omega arith;
          entries = omega arith;
          counted = refl;
          at_limit = λ h. absurd (let z : ◌≡◌ {A = ℕ} 2 3 = ap case h in omega arith);
          at_room = λ h. absurd (let z : ◌≡◌ {A = ℕ} 2 4 = ap case h in omega arith);
        })

pub steps_exactly : StepsExactlyAlways back
steps_exactly bs L M room lt = go (either bs)
  where
    go : (refusal bs ≡ Ok tt) ⊎ ((k : Broken) × Breaks bs k) → StepsExactly bs L M room (back bs L room)
    go (inl e) =
        let x =
        steps_still (width_of bs) (grammar_of bs) L (ran bs L room) (ran bs M room)
        (runs_shown.steps_exactly (system_in bs) (taking (grammar_of bs)) L M room lt) in
        let y = subst₂ (runs.StepsCompared L) (sym (taken bs e L room)) (sym (taken bs e M room)) x in
        record { exactly = y.exactly; else = y.else }
    go (inr (k, b)) =
        let l = refused bs k b L room in
        let m = refused bs k b M room in
        record {
          exactly = (
            λ h. absurd (let z : ◌≡◌ {A = ℕ} 2 3 = ap (λ (o : Outcome). case (said o)) (sym l) ∙ ap case h in omega arith),
            λ h. absurd (omega (arith, ap (λ (o : Outcome). o.report.closures) m)),
          );
          else = λ _. m ∙ sym l;
        }

pub room_exactly : RoomExactlyAlways back
room_exactly bs limit l R S lt low high = go (either bs)
  where
    go : (refusal bs ≡ Ok tt) ⊎ ((k : Broken) × Breaks bs k) → RoomExactly bs limit l R S (back bs limit R)
    go (inl e) =
        let W = system_in bs in
        let c = ap (λ (o : Outcome). o.report.closures) (taken bs e limit R) in
        let still = room_still (width_of bs) (grammar_of bs) R (ran bs limit R) in
        let x = still (ran bs l S) (runs_shown.room_exactly W (taking (grammar_of bs)) limit R S l lt (omega arith) high) in
        let y = subst₂ (runs.RoomCompared R) (sym (taken bs e limit R)) (sym (taken bs e l S)) x in
        let s = runs_shown.outcome_sound W (taking (grammar_of bs)) limit R in
        let u = still (ran bs limit S) (runs_shown.room_exactly W (taking (grammar_of bs)) limit R S limit lt s.closures (omega arith)) in
        let v = subst₂ (runs.RoomCompared R) (sym (taken bs e limit R)) (sym (taken bs e limit S)) u in
        record { exactly = y.exactly; else = v.else }
    go (inr (k, b)) =
        let m = refused bs k b limit R in
        let n = refused bs k b l S in
        record {
          exactly = (
            λ h. absurd (let z : ◌≡◌ {A = ℕ} 2 4 = ap (λ (o : Outcome). case (said o)) (sym m) ∙ ap case h in omega arith),
            λ h. absurd (omega (arith, ap (λ (o : Outcome). length o.entries) n)),
          );
          else = λ _. refused bs k b limit S ∙ sym m;
        }

pub room_counts : RoomCountsAlways back
room_counts bs limit R unbroken calm enough = go (answer bs limit R) refl s.says
  where
    good : refusal bs ≡ Ok tt
    good = when_unbroken bs unbroken

    s : runs.Sound (system_in bs) (Found (grammar_of bs)) limit R (back bs limit R)
    s = sound bs good limit R

    go : (a : Answer) → answer bs limit R ≡ a
        → runs.Says (system_in bs) (Found (grammar_of bs)) limit R (back bs limit R) a
        → RoomCounts bs R (back bs limit R)
    go Noncircular h says =
        let g = grammar_of bs in
        let es = (back bs limit R).entries in
        let o = obeys bs good in
        let full = saturated (width_of bs) g o.0 o.1 (Found g) es says.0 in
        record {
          exactly = (
            λ k. absurd (let z : ◌≡◌ {A = ℕ} 0 4 = ap case (sym h ∙ k) in omega arith),
            λ m.
                absurd
                (omega (
                  arith,
                  m.2,
                  s.entries,
                  no_more (width_of bs) g o.0 o.1 (Found g) es s.made s.different full m.0 m.1 (λ q k. of_tree bs (exact bs good) q (m.3 q k)),
                )),
          );
          once = stored_once (width_of bs) g o.0 o.1 (Found g) es s.made s.different;
          those = λ _ q. (
            λ m. tree_pair bs (exact bs good) _ (stored_pairs_lem (width_of bs) g o.0 o.1 (Found g) es s.made s.different _ m),
            λ m. pairs_stored (width_of bs) g o.0 o.1 (Found g) es s.made s.different full _ (of_tree bs (exact bs good) _ m),
          );
        }
    go (Circular p) h says = absurd (calm (some_circle bs p (back bs limit R) (circular_shown bs limit R p h)))
    go (Refused k) h says = absurd says
    go OutOfSteps h says = absurd (enough h)
    go OutOfRoom h says =
        let g = grammar_of bs in
        let es = (back bs limit R).entries in
        let o = obeys bs good in
        let x = says.1 in
        let l = one_more (width_of bs) g o.0 o.1 (Found g) es s.made s.different x.extra x.made x.new in
        record {
          exactly = (λ _. (l.0, l.1, omega (arith, l.2, says.0), λ q k. tree_pair bs (exact bs good) q (l.3 q k)), λ _. h);
          once = stored_once (width_of bs) g o.0 o.1 (Found g) es s.made s.different;
          those = λ n. absurd (n h);
        }

-- ---- demand 3
pub never_still : NeverStillAlways back
never_still bs limit room h t below = record {
  some = evaluators.evaluator g t;
  each = λ ev. finishes _;
  goes_on = λ c. evaluators.never_still g formed (InTable g) t complete none _;
  counts = λ {n} {d} r. evaluators.takings g t r;
  all_computed = λ {n} {d} r s. evaluators.all_computed g formed (InTable g) t complete none r s;
}
  where
    g : Grammar
    g = grammar_of bs

    formed : WellFormed (grammar_of bs)
    formed = (obeys bs (not_refused bs limit room Noncircular h (λ e. omega arith))).0

    complete : TreeOf bs t
    complete = from_complete g t below

    none : ¬ HasCircle bs t
    none c = noncircular_none bs limit room h (circle_from_start g t below c)

    finishes : (ev : Evaluator (grammar_of bs) t) → Finishes bs t ev
    finishes ev = record {
      takes = evaluators.takes g formed (InTable g) t complete none ev;
      stops = evaluators.stops g t ev;
      computes = (evaluators.all_computed g formed (InTable g) t complete none (play_end bs t ev).way (evaluators.stops g t ev)).1;
    }

-- so on a tree from the start symbol
pub never_still_start : (bs : List ℕ) (limit room : ℕ) → answer bs limit room ≡ Noncircular → (t : Tree) → StartTree bs t → NeverStill bs t
never_still_start bs limit room h t r = never_still bs limit room h t (from_root (grammar_of bs) t r)

-- on a tree with a circle
still_left : (bs : List ℕ) → refusal bs ≡ Ok tt → (t : Tree) → TreeOf bs t → HasCircle bs t → StandsStillLeft bs t
still_left bs good t complete circle = record {
  some = evaluators.evaluator g t;
  each = λ ev. stuck _;
  fewer = λ {n} {d} r. evaluators.fewer g formed (InTable g) t complete circle r;
  left_over = λ {n} {d} r. evaluators.left_over g formed (InTable g) t complete r;
}
  where
    g : Grammar
    g = grammar_of bs

    formed : WellFormed (grammar_of bs)
    formed = (obeys bs good).0

    stuck : (ev : Evaluator (grammar_of bs) t) → GetsStuck bs t ev
    stuck ev =
        let left = evaluators.left_over g formed (InTable g) t complete (play_end bs t ev).way in
        let y = left circle.0 circle.1 in
        record {
          stops = evaluators.stops g t ev;
          early = evaluators.fewer g formed (InTable g) t complete circle (play_end bs t ev).way;
          circles_left = left;
          one_left = (circle.0, y.0, y.1);
        }

pub stands_still : StandsStillLeftAlways back
stands_still bs limit room p h =
    let c = circular_shown bs limit room p h in
    still_left bs (not_refused bs limit room (Circular p) h (λ e. omega arith)) (shown_tree bs (back bs limit room) p)
    c.complete c.circle

pub stands_still_above : StandsStillAboveAlways back
stands_still_above bs limit room p h t d rooted there =
    let c = circular_shown bs limit room p h in
    still_left bs (not_refused bs limit room (Circular p) h (λ e. omega arith)) t rooted.complete
    (circle_inside (grammar_of bs) there c.circle)

-- ---- the rules themselves
pub passes_followed : PassesFollowed back
passes_followed bs limit room = refl
