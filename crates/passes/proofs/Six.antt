-- One combination that is tried follows the rule of the six steps. Assumes nothing.
use mathlib.Core.Path.{◌≡◌, refl, sym, ap, ap₂, ◌∙◌}
use mathlib.Core.Bool.{Bool, true, false}
use mathlib.Core.List.{List}
use Prim.Native.Nat.{ℕ, suc, ◌+◌, ◌-◌, ◌*◌, ◌≤◌, ◌<◌}
use native.Mathlib.Numerals.{add-one}
use native.Mathlib.Omega.{arith}
use lib.Dec.{leb, eqb}
use lib.ListN.{length, get_or, take, length-take}
use lib.Seq.{get_or-take}
use Rattle.numbers.proofs.Decides.{same_test, le_decides, eq_decides}
use Rattle.rules.specs.declared.Answer.TheVariants.{Circular}
use Rattle.rules.specs.declared.Entry.{Entry}
use Rattle.std.specs.Prelude.{Result}
use Rattle.steps.specs.declared.Run.{Run}
use Rattle.steps.specs.declared.Stop.{Stop}
use Rattle.steps.specs.declared.Task.{Task}
use Rattle.steps.specs.declared.Verdict.{Verdict}
use Rattle.steps.specs.declared.Verdict.TheVariants.{Steps, Circle, Known, Full, New}
use Rattle.graph.specs.Rows.{has_circle, root_graph}
use Rattle.compounds.specs.Combination.{own_in, picked_graphs, closed_over, closed_in}
use Rattle.rules.specs.Passes.{State, Ran, going, stopped, numbered, no_root, stop_if, go_on_if, counted, stored, try}
use Rattle.rules.proofs.Steps.{by_tests}
use Rattle.passes.specs.Slices.{Slices}
use Rattle.steps.specs.Slices.{put}
use Rattle.steps.specs.Step.{goes_on, seen_in, least, verdict, judged, counts, stores, entry_of, run_at, slices_at, Tried}
use Rattle.steps.proofs.Held.{put_held}
use Rattle.steps.proofs.Verdicts.{is_left, has_room}
use Rattle.turns.specs.Turning.{Numbers}
use Rattle.turns.proofs.Turning.{numbers_long}
use Rattle.passes.specs.Follow.{state_of, ran_of, Follows, InTurn, system_by, run_in}
use Rattle.passes.proofs.Entries.{length_entries, seen_known, graphs_same, put_stay, put_entries, set_beyond, sets_beyond}
use Rattle.passes.proofs.Following.{kept_same}

-- ---- the six steps by the verdict

abbrev acted : Verdict → ℕ → List ℕ → State → State → Ran
acted Steps p root s u = stopped (numbered 8) no_root s
acted Circle p root s u = stopped (Circular p) root (counted s)
acted Known p root s u = going (counted s)
acted Full p root s u = stopped (numbered 9) no_root (counted s)
acted New p root s u = going u

by_verdict : (a b c d : Bool) (p : ℕ) (root : List ℕ) (s u : State) → by_tests a b c d p root s u ≡ acted (verdict a b c d) p root s u
unfolding stop_if go_on_if verdict
by_verdict true b c d p root s u = refl
by_verdict false true c d p root s u = refl
by_verdict false false true d p root s u = refl
by_verdict false false false true p root s u = refl
by_verdict false false false false p root s u = refl

-- no closure is left exactly if as many as the limit have been made
none_left : (limit left : ℕ) → left ≤ limit → leb limit (limit - left) ≡ eqb left 0
none_left limit left l = same_test (le_decides limit (limit - left)) (eq_decides left 0) (λ h. omega arith) (λ h. omega arith)

-- the room is full exactly if as many are stored
full_by : (room n : ℕ) → n ≤ room → leb room n ≡ eqb n room
full_by room n l = same_test (le_decides room n) (eq_decides n room) (λ h. omega arith) (λ h. omega arith)

module _ (k : Task) (rights edges : List ℕ) (p : ℕ) where
  left_by : (system_by k rights edges).left p ≡ k.symbol
  unfolding system_by
  left_by = refl

  circle_by : (gs : List ℕ) → (system_by k rights edges).circle p gs ≡ has_circle (closed_over (own_in edges) gs)
  unfolding system_by
  circle_by gs = refl

  graph_by : (gs : List ℕ) → (system_by k rights edges).graph p gs ≡ root_graph 8 (closed_over (own_in edges) gs)
  unfolding system_by
  graph_by gs = refl

module _ (k : Task) (rights edges : List ℕ) (first : ℕ) (σ : Slices) (r : Run) (picked : List ℕ) (ready : InTurn k rights first σ r)
    (numbers : Numbers k.count first picked) where
  abbrev combo : List ℕ
  combo = take k.count picked

  abbrev left : ℕ
  left = r.left

  abbrev n : ℕ
  n = r.stored

  abbrev rule : ℕ → State → Ran
  rule limit = try (system_by k rights edges) limit k.room k.number combo

  abbrev closed : List ℕ
  closed = closed_in edges σ.graphs k.count picked

  abbrev new : Entry
  new = entry_of k (root_graph 8 closed) picked

  abbrev now : Verdict
  now = judged k edges σ.symbols σ.graphs left n picked

  seven_picked : length picked ≡ 7
  seven_picked = numbers_long k.count first picked ready.few numbers

  -- what the six steps do at a verdict
  abbrev acts : Verdict → ℕ → Ran
  acts v limit = acted v k.number picked (state_of limit σ r) (stored new (counted (state_of limit σ r)))

  picked_below : (i : ℕ) → i < length combo → get_or combo i 0 < n
  picked_below i l =
      let h : i < k.count = omega (arith, length-take k.count picked) in
      omega (arith, numbers.below i h, get_or-take k.count picked i 0 h, ready.first_held)

  all_compared : least σ.symbols σ.graphs n ≡ n
  all_compared = omega (arith, ready.roomy.stored, ready.roomy.symbols, ready.roomy.graphs)

  tried : (limit : ℕ) → left ≤ limit → rule limit (state_of limit σ r) ≡ acts now limit
  unfolding try judged
  tried limit l =
      rw (
        none_left limit left l,
        left_by k rights edges k.number,
        ← graphs_same σ n combo picked_below,
        ← numbers.slots,
        circle_by k rights edges k.number (picked_graphs σ.graphs k.count picked),
        graph_by k rights edges k.number (picked_graphs σ.graphs k.count picked),
        ← seen_known σ k.symbol (root_graph 8 closed) n,
        length_entries σ n,
        full_by k.room n ready.roomy.stored,
        all_compared,
      )
      (by_verdict (eqb left 0) (has_circle closed) (seen_in σ.symbols σ.graphs k.symbol (root_graph 8 closed) n)
      (eqb n k.room) k.number picked (state_of limit σ r) (stored new (counted (state_of limit σ r))))

  -- nothing is stored
  quiet : (v : Verdict) (q : Result Run Stop) → now ≡ v → (run_in q).stored ≡ n → (run_in q).left ≤ left
      → ((limit : ℕ) → left ≤ limit → ran_of limit σ q ≡ acts v limit)
      → Follows k.room rule σ r σ q
  quiet v q h e l same =
      record {
        kept = kept_same k.room σ r (run_in q) e l ready.roomy.stored;
        ran =
            λ limit i. same limit i
            ∙ sym (ap (λ (x : Verdict). acts x limit) h)
            ∙ sym (tried limit i);
      }

  -- one closure is counted
  one_closure : (v : Verdict) → now ≡ v → counts v ≡ true → (limit : ℕ) → left ≤ limit → limit - (left - 1) ≡ suc (limit - left)
  one_closure v h i limit l = omega (arith, is_left k edges σ.symbols σ.graphs left n picked (ap counts h ∙ i))

  module _ (h : now ≡ New) where
    room_left : n < k.room
    room_left = has_room k edges σ.symbols σ.graphs left n picked (ap stores h) ready.roomy.stored

    follows_new : Follows k.room rule σ r (put σ n new) (goes_on (left - 1) (n + 1))
    follows_new =
        record {
          kept =
              record {
                symbols = rw add-one (set_beyond σ.symbols n k.symbol);
                graphs = rw add-one (set_beyond σ.graphs n (root_graph 8 closed));
                productions = rw add-one (set_beyond σ.productions n k.number);
                kids = sets_beyond σ.kids (7 * n) picked (7 * (n + 1)) (omega (arith, seven_picked));
                stay = put_stay σ n new;
                more = omega arith;
                fits = omega (arith, room_left);
                left = omega arith;
              };
          ran =
              λ limit l. ap₂ (λ (es : List Entry) (m : ℕ). going (record { entries = es; made = m }))
              (rw add-one (put_entries σ n new (omega (arith, room_left, ready.roomy.symbols))
              (omega (arith, room_left, ready.roomy.graphs)) (omega (arith, room_left, ready.roomy.productions))
              (omega (arith, room_left, ready.roomy.kids)) seven_picked))
              (one_closure New h refl limit l)
              ∙ sym (ap (λ (x : Verdict). acts x limit) h)
              ∙ sym (tried limit l);
        }

    is_put : slices_at New k (root_graph 8 closed) picked n σ ≡ put σ n new
    unfolding slices_at
    is_put =
        put_held σ n new
        (omega (arith, room_left, ready.roomy.symbols, ready.roomy.graphs, ready.roomy.productions, ready.roomy.kids, ready.roomy.small))

  follows_at : (v : Verdict) → now ≡ v
      → Follows k.room rule σ r (slices_at v k (root_graph 8 closed) picked n σ) (run_at v k.number picked left n)
  unfolding run_at slices_at numbered
  follows_at Steps h = quiet Steps _ h refl (omega arith) (λ limit l. refl)
  follows_at Circle h = quiet Circle _ h refl (omega arith) (λ limit l. rw (one_closure Circle h refl limit l))
  follows_at Known h = quiet Known _ h refl (omega arith) (λ limit l. rw (one_closure Known h refl limit l))
  follows_at Full h = quiet Full _ h refl (omega arith) (λ limit l. rw (one_closure Full h refl limit l))
  follows_at New h = rw (is_put h) (follows_new h)

  -- from what one try promises
  module _ (v : Verdict) (τ : Slices) (t : Tried k edges picked left n σ v τ) where
    pub follows_tried : Follows k.room rule σ r τ (run_at v k.number picked left n)
    follows_tried = rw t.slices (follows_at v (sym t.verdict_is))

    pub tried_left : counts v ≡ true → 1 ≤ left
    tried_left h = is_left k edges σ.symbols σ.graphs left n picked (ap counts (sym t.verdict_is) ∙ h)
