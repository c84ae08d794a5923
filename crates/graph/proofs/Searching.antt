-- What the loops of the search make, a turn at a time. Assumes nothing.
use mathlib.Core.Path.{◌≡◌, refl, sym, ap, ◌∙◌}
use mathlib.Core.Bool.{Bool, true, false, true≢false}
use mathlib.Core.List.{List, [], ◌∷◌, ◌++◌, map, append_assoc, append-nil}
use Prim.Native.Nat.{ℕ, zero, suc, ◌+◌, ◌-◌, ◌^◌, ◌≤◌, ◌<◌}
use native.Mathlib.Decide.{dec_lt}
use native.Mathlib.Numerals.{add-one}
use native.Mathlib.Omega.{arith}
use lib.Bits.{bit_and, bit_or}
use borrow.Author.Tests.{lt-ltb, le-ltb, ltb-true, ltb-false}
use lib.Dec.{ltb}
use lib.ListN.{length, get_or, set, replicate, length-append}
use Rattle.std.specs.Prelude.{Option, Some, None, MatchOption, IsTrue}
use Rattle.std.specs.Int.{w64, trailing_zeros}
use Rattle.numbers.specs.Number.{bit}
use Rattle.graph.specs.declared.Nearest.{Nearest}
use Rattle.graph.specs.declared.Trail.{Trail}
use Rattle.graph.specs.Rows.{join}
use Rattle.graph.specs.Parts.{most_nodes}
use Rattle.graph.specs.Search.{into, level, first_from, lowest, between, least_between, path_of, nearer, nearest_to, circle_of}
use Rattle.graph.specs.Marks.{mark_into}
use Rattle.graph.specs.Trails.{trail, filled_up, trail_of, circle_trail, no_trail}
use Rattle.graph.proofs.FirstFrom.{begun, hit, skip, over, lowest_zeros}
use Rattle.graph.proofs.Levels.{Reach, reach_lt, level_sound}
use Rattle.graph.proofs.LeastBetween.{next_node, next_is}
use Rattle.graph.proofs.PathFound.{between_met, path_there, path_none, path_out}
use Rattle.graph.proofs.CircleStart.{nearest_is}
use Rattle.graph.proofs.Trails.{none_filled, filled_more, filled_map_more, trail_none, trail_back}

-- ---- the nodes with a link into a set, and the levels

pub joined : (b p r : ℕ) {q : ℕ} → 0 < b → q ≡ p → bit_or r q ≡ join b p r
joined zero p r l e = absurd (omega arith)
joined (suc b) p r l e = ap (bit_or r) e

pub not_joined : (b p r : ℕ) → b ≡ 0 → r ≡ join b p r
not_joined b p r e = rw e

module _ (rows : List ℕ) where
  pub into_more : (i set : ℕ) {r s : ℕ} → r ≡ into i rows set → s ≡ join (bit_and (get_or rows i 0) set) (2 ^ i) r → s ≡ into (i + 1) rows set
  unfolding into
  into_more i set p q = rw (add-one, ← p) q

  pub level_more : (y k : ℕ) {r s : ℕ} → r ≡ level rows y k → s ≡ into (length rows) rows r → s ≡ level rows y (k + 1)
  unfolding level
  level_more y k p q = rw (add-one, ← p) q

  -- ---- one level after the other, until x is met

  module _ (x y : ℕ) where
    -- what is left to look through from level k + 1 on gives what the whole gives
    abbrev pub BetweenFrom : ℕ → Type 0
    BetweenFrom k = between rows x y ≡ first_from (λ (j : ℕ). bit x (level rows y (suc j))) (length rows - k) k

    pub between_begun : BetweenFrom 0
    unfolding between
    between_begun = begun _ (length rows)

    module _ (k : ℕ) {s : ℕ} (l : k < length rows) (p : s ≡ level rows y (k + 1)) (e : BetweenFrom k) where
      same : bit x s ≡ bit x (level rows y (suc k))
      same = ap (bit x) (p ∙ ap (level rows y) (add-one k))

      pub between_hit : bit x s ≡ 1 → k ≡ between rows x y
      between_hit h = sym (hit _ (length rows) k l e (sym same ∙ h))

      pub between_skip : bit x s ≡ 0 → BetweenFrom (k + 1)
      between_skip h = skip _ (length rows) k l e (sym same ∙ h)

    pub between_over : (k : ℕ) → k ≡ length rows → BetweenFrom k → between rows x y ≡ length rows
    between_over k h e = over _ (length rows) k h e

-- ---- the path with its marks, written into rows of n places

-- i nodes after x are written, the last is z, and so are the marks of the links that lead to them
pub record Writing (w : ℕ) (masks : List ℕ) (n : ℕ) (rows : List ℕ) (x y k i z : ℕ) (nodes marks : List ℕ) : Type 0 where
  pub reach : Reach rows (suc (k - i)) z y
  pub front : List ℕ
  pub long : length front ≡ i
  pub nodes_are : nodes ≡ filled_up n (x ∷ front)
  pub marks_are : marks ≡ filled_up n (map (mark_into w masks) front)
  pub whole : front ++ least_between rows y (k - i) z ≡ least_between rows y k x

pub writing_begun : (w : ℕ) (masks : List ℕ) (n : ℕ) (rows : List ℕ) (x y k : ℕ) {nodes marks : List ℕ} → 0 < n
    → bit x (level rows y (suc k)) ≡ 1 → nodes ≡ replicate n 0 → marks ≡ replicate n 0
    → Writing w masks n rows x y k 0 x (set nodes 0 x) marks
writing_begun w masks n rows x y k l h p q =
    let e : k - 0 ≡ k = omega arith in
    record {
      reach = rw e (level_sound rows y (suc k) x h);
      front = [];
      long = refl;
      nodes_are = ap (λ (t : List ℕ). set t 0 x) (p ∙ sym (none_filled n)) ∙ filled_more n [] 0 x refl l;
      marks_are = q ∙ sym (none_filled n);
      whole = rw e refl;
    }

module _
    {w : ℕ} {masks : List ℕ} {n : ℕ} {rows : List ℕ} {x y k i z : ℕ} {nodes marks : List ℕ}
    (t : Writing w masks n rows x y k i z nodes marks) where
  -- the next node, where one is left
  module _ (l : i < k) where
    abbrev ahead : ℕ → ℕ
    ahead set = bit_and (get_or rows z 0) set

    one_less : k - i ≡ suc (k - (i + 1))
    one_less = omega arith

    is_next : lowest (length rows) (ahead (level rows y (k - i))) ≡ next_node rows y (k - (i + 1)) z
    is_next = rw one_less

    on : {u : ℕ} → u ≡ lowest (length rows) (ahead (level rows y (k - i))) → Reach rows (suc (k - (i + 1))) u y
    on e = rw (e, is_next) (next_is rows y (k - (i + 1)) z (rw one_less at t.reach)).on

    -- it is the lowest of the nodes ahead, in a row of 64 bits
    module _ {set : ℕ} (e : set ≡ level rows y (k - i)) where
      pub next_found : bit_and (get_or rows z 0) set < 2 ^ 64 → trailing_zeros w64 (bit_and (get_or rows z 0) set) ≡ lowest (length rows) (ahead (level rows y (k - i)))
      next_found fits = rw (← e) (lowest_zeros (length rows) _ fits (rw e (reach_lt rows (k - (i + 1)) _ y (on refl))))

    module _ {u : ℕ} (next : u ≡ lowest (length rows) (ahead (level rows y (k - i)))) where
      pub next_low : u < length rows
      next_low = reach_lt rows (k - (i + 1)) u y (on next)

      opened : least_between rows y (k - i) z ≡ u ∷ least_between rows y (k - (i + 1)) u
      unfolding least_between
      opened = ap (λ (j : ℕ). least_between rows y j z) one_less ∙ rw (next, is_next)

      pub writing_more : k < n → {v : ℕ} → v ≡ mark_into w masks u
          → Writing w masks n rows x y k (i + 1) u (set nodes (i + 1) u) (set marks i v)
      writing_more fits mark = record {
        reach = on next;
        front = t.front ++ u ∷ [];
        long = omega (arith, length-append t.front (u ∷ []), t.long);
        nodes_are =
            ap (λ (r : List ℕ). set r (i + 1) u) t.nodes_are
            ∙ filled_more n (x ∷ t.front) (i + 1) u (omega (arith, t.long)) (omega arith);
        marks_are = filled_map_more (mark_into w masks) n t.front i u t.marks_are mark t.long (omega arith);
        whole =
            append_assoc t.front (u ∷ []) (least_between rows y (k - (i + 1)) u)
            ∙ ap (λ (r : List ℕ). t.front ++ r) (sym opened)
            ∙ t.whole;
      }

  -- all are written
  all : i ≡ k → t.front ≡ least_between rows y k x
  unfolding least_between
  all e =
      let j : k - i ≡ 0 = omega arith in
      sym (append-nil t.front) ∙ ap (λ (j : ℕ). t.front ++ least_between rows y j z) (sym j) ∙ t.whole

-- and the mark of the last link
pub writing_done : {w : ℕ} {masks rows : List ℕ} {x y k i z : ℕ} {nodes marks : List ℕ} → Writing w masks most_nodes rows x y k i z nodes marks
    → i ≡ k → k < most_nodes → {v : ℕ} → v ≡ mark_into w masks y
    → trail nodes (set marks k v) (k + 1) ≡ trail_of w masks (x ∷ least_between rows y k x) y
unfolding trail_of
writing_done {w} {masks} {rows} {x} {y} {k} {i} {z} {nodes} {marks} t e fits {v} mark =
    let ws = least_between rows y k x in
    let nodes_are : nodes ≡ filled_up most_nodes (x ∷ ws) = t.nodes_are ∙ ap (λ (r : List ℕ). filled_up most_nodes (x ∷ r)) (all t e) in
    let marks_are : set marks k v ≡ filled_up most_nodes (map (mark_into w masks) (ws ++ y ∷ [])) =
    filled_map_more (mark_into w masks) most_nodes t.front k y t.marks_are mark (t.long ∙ e) fits
    ∙ ap (λ (r : List ℕ). filled_up most_nodes (map (mark_into w masks) (r ++ y ∷ []))) (all t e) in
    let len_is : k + 1 ≡ suc (length ws) = omega (arith, ap length (all t e), t.long) in
    rw (nodes_are, marks_are, len_is)

-- ---- the node to begin with

-- of the nodes below s, where some node has a path back to itself
abbrev pub NearestBelow : List ℕ → ℕ → Option Nearest → Type 0
NearestBelow rows s r = MatchOption r (length rows ≤ (nearest_to s rows).between) (λ b. (b ≡ nearest_to s rows) × (b.between < length rows))

module _ (rows : List ℕ) (s : ℕ) where
  nearer_now : between rows s s < (nearest_to s rows).between → nearest_to (s + 1) rows ≡ record { start = s; between = between rows s s }
  unfolding nearest_to nearer
  nearer_now l = rw (add-one, lt-ltb _ _ l)

  as_near : (nearest_to s rows).between ≤ between rows s s → nearest_to (s + 1) rows ≡ nearest_to s rows
  unfolding nearest_to nearer
  as_near l = rw (add-one, le-ltb _ _ l)

  -- s has no path back to itself
  pub nearest_without : (r : Option Nearest) → NearestBelow rows s r → length rows ≤ between rows s s → NearestBelow rows (s + 1) r
  nearest_without None h l = go (dec_lt (between rows s s) (nearest_to s rows).between)
    where
      go : Dec (between rows s s < (nearest_to s rows).between) → length rows ≤ (nearest_to (s + 1) rows).between
      go (yes b) = rw (nearer_now b) l
      go (no n) = rw (as_near (omega arith)) h
  nearest_without (Some b) h l =
      let e : b.between ≡ (nearest_to s rows).between = ap (λ (b : Nearest). b.between) h.0 in
      (h.0 ∙ sym (as_near (omega (arith, h.1))), h.1)

  -- it has one, and is nearer than what was found, or it is not
  module _ {k : ℕ} (e : k ≡ between rows s s) (l : k < length rows) {t : Bool} {Tells : Nearest → Type 0} where
    pub nearest_now : (r : Option Nearest) → NearestBelow rows s r → MatchOption r (IsTrue t) Tells → ((b : Nearest) → Tells b → t ≡ ltb k b.between) → t ≡ true
        → NearestBelow rows (s + 1) (Some (record { start = s; between = k }))
    nearest_now None h d told q = (ap (λ (k : ℕ). record { start = s; between = k }) e ∙ sym (nearer_now (omega (arith, e, l, h))), l)
    nearest_now (Some b) h d told q =
        let f : b.between ≡ (nearest_to s rows).between = ap (λ (b : Nearest). b.between) h.0 in
        let n : k < b.between = ltb-true k b.between (sym (told b d) ∙ q) in
        (ap (λ (k : ℕ). record { start = s; between = k }) e ∙ sym (nearer_now (omega arith)), l)

    pub nearest_still : (r : Option Nearest) → NearestBelow rows s r → MatchOption r (IsTrue t) Tells → ((b : Nearest) → Tells b → t ≡ ltb k b.between) → t ≡ false
        → NearestBelow rows (s + 1) r
    nearest_still None h d told q = absurd (true≢false (sym d ∙ q))
    nearest_still (Some b) h d told q =
        let f : b.between ≡ (nearest_to s rows).between = ap (λ (b : Nearest). b.between) h.0 in
        let n : b.between ≤ k = ltb-false k b.between (sym (told b d) ∙ q) in
        (h.0 ∙ sym (as_near (omega arith)), h.1)

-- ---- what is handed over

module _ (w : ℕ) (masks rows : List ℕ) where
  module _ (x y : ℕ) {k : ℕ} (e : k ≡ between rows x y) where
    pub path_met : k < length rows → bit x (level rows y (suc k)) ≡ 1
    path_met l = rw e (between_met rows x y (omega arith))

    pub path_written : y < length rows → k < length rows → {t : Trail} → t ≡ trail_of w masks (x ∷ least_between rows y k x) y
        → t ≡ trail_of w masks (path_of rows x y) y
    path_written l m p =
        p ∙ ap (λ (c : List ℕ). trail_of w masks c y) (ap (λ (k : ℕ). x ∷ least_between rows y k x) e ∙ sym (path_there rows x y l (omega arith)))

  pub no_path : (x y : ℕ) → path_of rows x y ≡ [] → no_trail ≡ trail_of w masks (path_of rows x y) y
  no_path x y e = trail_none w masks y e

  module _ (b : Nearest) (n : NearestBelow rows (length rows) (Some b)) where
    pub start_found : (b.start < length rows) × (b.between ≡ between rows b.start b.start)
    start_found =
        let r = rw (← n.0) at (nearest_is rows (length rows)) in
        let t = r.there n.1 in
        (t.0, sym t.1)

    pub circle_written : {t : Trail} → t ≡ trail_of w masks (b.start ∷ least_between rows b.start b.between b.start) b.start
        → t ≡ circle_trail w masks (circle_of rows)
    unfolding circle_of
    circle_written p =
        path_written b.start b.start start_found.1 start_found.0 n.1 p
        ∙ trail_back w masks rows b.start
        ∙ ap (λ (b : Nearest). circle_trail w masks (path_of rows b.start b.start)) n.0

  pub no_circle : length rows ≤ (nearest_to (length rows) rows).between → no_trail ≡ circle_trail w masks (circle_of rows)
  unfolding circle_of
  no_circle n = let s = (nearest_to (length rows) rows).start in no_path s s (none s) ∙ trail_back w masks rows s
    where
      none : (s : ℕ) → path_of rows s s ≡ []
      none s = go (dec_lt s (length rows))
        where
          go : Dec (s < length rows) → path_of rows s s ≡ []
          go (yes l) = path_none rows s s (omega (arith, (nearest_is rows (length rows)).short s l))
          go (no f) = path_out rows s s (omega arith)
