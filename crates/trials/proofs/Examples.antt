-- Each demand at A, B and R: what it asks can be met; and where the start symbol makes a difference. Assumes nothing.
use mathlib.Core.Bool.{false}
use mathlib.Core.Path.{◌≡◌, refl, ap, subst}
use mathlib.Core.List.{List, [], ◌∷◌, Memᴰ}
use mathlib.Core.Logic.{◌↔◌}
use Prim.Native.Nat.{ℕ, zero, suc, ◌≤◌}
use native.Mathlib.Omega.{arith}
use lib.ListN.{length, take, set, replicate}
use Rattle.grammar.specs.Table.{grammar_of}
use Rattle.grammar.specs.declared.Broken.TheVariants.{Rule, Record}
use Rattle.grammar.specs.Rules.{Breaks}
use Rattle.numbers.specs.Paths.{one, Circle}
use Rattle.graph.specs.declared.Trail.{Trail}
use Rattle.graph.specs.Trails.{no_trail}
use Rattle.trees.specs.Tree.{Tree, node, Kids, nil, cons, root_symbol, OneEach, InTable, Instance, here, at, Own, Joined}
use Rattle.trees.specs.Address.{first, whole, down}
use Rattle.trees.specs.Evaluator.{Computed, not_given, Reached, Evaluator, play}
use Rattle.trees.specs.Small.{small_edge, grammar_a, grammar_b, grammar_c}
use Rattle.trees.proofs.Starts.{circle_from_start}
use Rattle.rules.specs.declared.Answer.TheVariants.{Noncircular, Circular, Refused, OutOfSteps, OutOfRoom}
use Rattle.rules.specs.Opened.{opened}
use Rattle.rules.specs.Passes.{outcome, no_root, empty}
use Rattle.rules.specs.Small.{table_a, table_b, table_c, table_r, table_spare, table_endless, table_barren}
use Rattle.verdict.specs.Demands.{back, answer, NoRuleBroken, TreeOf, StartTree, BelowStart, NoStartTree, PathIn, HasCircle, GraphOf, TreePair, entry_tree, shown_tree, NoncircularNone, MorePairs, stored_pairs, NeverStill, StandsStillLeft}
use Rattle.verdict.specs.Circle.{nodes_said, marks_said, IsRootCircle, RootEdge, KidPair, LeastCircleSaid, NodeWaits}
use Rattle.verdict.proofs.Demands.{refused_exactly, entries_shown, circular_shown, noncircular_none, start_without_tree, steps_exactly, room_exactly, room_counts, never_still, never_still_start, stands_still, stands_still_above}
use Rattle.verdict.proofs.Circle.{circle_said_lem, never_both, circle_waits}

-- ---- the bytes of A, B and C are the grammars that the trees' samples have as records
pub grammar_a_lem : grammar_of table_a ≡ grammar_a
unfolding opened table_a
grammar_a_lem = refl

pub grammar_b_lem : grammar_of table_b ≡ grammar_b
unfolding opened table_b
grammar_b_lem = refl

pub grammar_c_lem : grammar_of table_c ≡ grammar_c
unfolding opened table_c
grammar_c_lem = refl

-- a table that is called noncircular breaks no rule
when_noncircular : (bs : List ℕ) (limit room : ℕ) → answer bs limit room ≡ Noncircular → NoRuleBroken bs
when_noncircular bs limit room h k b =
    let r = (refused_exactly bs limit room k).exactly.1 b in
    let z : ◌≡◌ {A = ℕ} 0 1 = cc in omega arith

-- ---- demand 1: of A 23 bytes are refused by 1, and A itself by no number
short_a : answer (take 23 table_a) 10 3 ≡ Refused (Rule 1)
unfolding opened table_a
short_a = refl

header_a : Breaks (take 23 table_a) (Rule 1)
header_a = (refused_exactly (take 23 table_a) 10 3 (Rule 1)).exactly.0 short_a

noncircular_a : answer table_a 10 3 ≡ Noncircular
unfolding opened table_a
noncircular_a = refl

pub unbroken_a : NoRuleBroken table_a
unbroken_a = when_noncircular table_a 10 3 noncircular_a

-- ---- demand 2 at A

pub none_a : NoncircularNone table_a
none_a = noncircular_none table_a 10 3 noncircular_a

pub closures_a : (back table_a 10 3).report.closures ≡ 10
unfolding opened table_a
closures_a = refl

-- A makes 10 closures, so 9 are not enough
steps_a : answer table_a 9 3 ≡ OutOfSteps
steps_a = (steps_exactly table_a 9 10 3 (omega arith)).exactly.1 (omega (arith, closures_a))

pub entries_a_lem : length (back table_a 10 3).entries ≡ 3
unfolding opened table_a
entries_a_lem = refl

closures_room_a : (back table_a 10 2).report.closures ≡ 3
unfolding opened table_a
closures_room_a = refl

-- A stores 3 entries, so a room of 2 is not enough; and its trees have more than 2 pairs of root symbol and graph
room_a : answer table_a 10 2 ≡ OutOfRoom
room_a =
    (room_exactly table_a 10 10 2 3 (omega arith) (omega (arith, closures_room_a)) (omega arith)).exactly.1 (omega (arith, entries_a_lem))

more_than_two : MorePairs table_a 2
more_than_two =
    (room_counts table_a 10 2 unbroken_a none_a (λ e. let z : ◌≡◌ {A = ℕ} 0 1 = cc room_a in omega arith)).exactly.0 room_a

pub not_three : ¬ MorePairs table_a 3
not_three m =
    let c = room_counts table_a 10 3 unbroken_a none_a (λ e. let z : ◌≡◌ {A = ℕ} 0 1 = cc noncircular_a in omega arith) in
    let k = c.exactly.1 m in
    let z : ◌≡◌ {A = ℕ} 0 1 = cc noncircular_a in omega arith

-- the trees of A have these pairs and no others: what is stored
stored_a : stored_pairs table_a (back table_a 10 3) ≡ (1, 4) ∷ (1, 2048) ∷ (0, 0) ∷ []
unfolding opened table_a
stored_a = refl

pairs_a : (q : ℕ × ℕ) → Memᴰ q ((1, 4) ∷ (1, 2048) ∷ (0, 0) ∷ []) ↔ TreePair table_a q
pairs_a q =
    subst (λ (l : List (ℕ × ℕ)). Memᴰ q l ↔ TreePair table_a q) stored_a
    ((room_counts table_a 10 3 unbroken_a none_a (λ e. let z : ◌≡◌ {A = ℕ} 0 1 = cc noncircular_a in omega arith)).those
    (λ e. let z : ◌≡◌ {A = ℕ} 0 1 = cc noncircular_a in omega arith) q)

-- the first entry shows production 1 by itself; its graph is 4: a path from attribute 0 to attribute 2
tree_of_entry_a : entry_tree table_a (back table_a 10 3) 0 ≡ node 1 nil
unfolding opened table_a
tree_of_entry_a = refl

graph_of_entry_a : GraphOf table_a (node 1 nil) 4
unfolding opened table_a
graph_of_entry_a = (entries_shown table_a 10 3 0 (omega (arith, entries_a_lem))).graph

path_a : PathIn table_a (node 1 nil) (here 0) (here 2)
path_a = (graph_of_entry_a.bits 0 2 (omega arith) (omega arith)).0 refl

-- ---- demand 3 at A: an evaluator on production 0 over production 1 never stands still too early
tree_a : StartTree table_a (node 0 (cons (node 1 nil) nil))
unfolding opened table_a
tree_a = record { complete = (omega arith, (refl, (omega arith, tt), tt)); root = refl }

goes_on_a : NeverStill table_a (node 0 (cons (node 1 nil) nil))
goes_on_a = never_still_start table_a 10 3 noncircular_a (node 0 (cons (node 1 nil) nil)) tree_a

-- nor on its subtree, production 1 by itself
goes_on_leaf_a : NeverStill table_a (node 1 nil)
goes_on_leaf_a =
    never_still table_a 10 3 noncircular_a (node 1 nil)
    (record { tree = node 0 (cons (node 1 nil) nil); rooted = tree_a; address = 0 ∷ []; there = down first whole })

-- it has four values and none is given; where the symbol 1 is at the root, its two inherited values are
not_given_a : not_given (grammar_of table_a) (node 0 (cons (node 1 nil) nil)) ≡ 4
unfolding opened table_a
not_given_a = refl

not_given_leaf_a : not_given (grammar_of table_a) (node 1 nil) ≡ 2
unfolding opened table_a
not_given_leaf_a = refl

-- so each evaluator has taken all four after four turns, and not earlier
four_a : (ev : Evaluator (grammar_of table_a) (node 0 (cons (node 1 nil) nil)))
    → (play (grammar_of table_a) (node 0 (cons (node 1 nil) nil)) ev 4).takings ≡ 4
four_a ev = (goes_on_a.each ev).takes 4 (omega (arith, not_given_a))

-- ---- demands 2 and 3 at B: the shown tree, its circle, and evaluators on it
pub circular_b : answer table_b 3 2 ≡ Circular 0
unfolding opened table_b
circular_b = refl

shown_b : shown_tree table_b (back table_b 3 2) 0 ≡ node 0 (cons (node 1 nil) nil)
unfolding opened table_b
shown_b = refl

circle_b : HasCircle table_b (shown_tree table_b (back table_b 3 2) 0)
circle_b = (circular_shown table_b 3 2 0 circular_b).circle

pub still_b : StandsStillLeft table_b (shown_tree table_b (back table_b 3 2) 0)
still_b = stands_still table_b 3 2 0 circular_b

-- the circle that is said at B, from attribute 0 of the subtree's root: a pair to 2, an edge to 1, a pair to 3, and an edge back
pub trail_b :
    (back table_b 3 2).report.circle
    ≡ record { nodes = 8 ∷ 10 ∷ 9 ∷ 11 ∷ replicate 60 0; marks = 0 ∷ 1 ∷ 0 ∷ 1 ∷ replicate 60 0; len = 4 }
unfolding opened table_b
trail_b = refl

nodes_b : nodes_said (back table_b 3 2) ≡ 8 ∷ 10 ∷ 9 ∷ 11 ∷ []
nodes_b = ap (λ (t : Trail). take t.len t.nodes) trail_b

marks_b : marks_said (back table_b 3 2) ≡ 0 ∷ 1 ∷ 0 ∷ 1 ∷ []
marks_b = ap (λ (t : Trail). take t.len t.marks) trail_b

least_circle_b : LeastCircleSaid table_b 0 (back table_b 3 2)
least_circle_b = (circle_said_lem table_b 3 2).circular 0 circular_b

none_shorter_b : (c : List ℕ) → IsRootCircle table_b 0 (back table_b 3 2) c → 4 ≤ length c
none_shorter_b c h = omega (arith, least_circle_b.shortest c h, ap length nodes_b)

pair_b : KidPair table_b 0 (back table_b 3 2) 8 10
pair_b = (rw (nodes_b, marks_b) at (least_circle_b.pairs 0) (omega arith)).0 refl

edge_b : RootEdge table_b 0 (back table_b 3 2) 10 9
edge_b = (rw (nodes_b, marks_b) at (least_circle_b.edges 1) (omega arith)).0 refl

not_both_b : ¬ RootEdge table_b 0 (back table_b 3 2) 8 10
not_both_b e = never_both table_b 3 2 0 circular_b 8 10 e pair_b

-- the value of its first node is never computed
waits_b : NodeWaits table_b (shown_tree table_b (back table_b 3 2) 0) 8
waits_b = circle_waits table_b 3 2 0 circular_b 8 (rw nodes_b (Memᴰ.head refl))

never_b : {k : ℕ} {d : Computed Instance} → Reached (grammar_of table_b) (node 0 (cons (node 1 nil) nil)) k d → d (at 1 0) ≡ false
never_b {k} {d} r = (rw shown_b at waits_b).never r

-- A has none to say
pub none_said_a : (back table_a 10 3).report.circle ≡ no_trail
none_said_a = (circle_said_lem table_a 10 3).else (λ p e. let z : ◌≡◌ {A = ℕ} 0 1 = cc noncircular_a in omega arith)

-- B makes 3 closures and stores 2 entries
pub closures_b : (back table_b 3 2).report.closures ≡ 3
unfolding opened table_b
closures_b = refl

steps_b : answer table_b 2 2 ≡ OutOfSteps
steps_b = (steps_exactly table_b 2 3 2 (omega arith)).exactly.1 (omega (arith, closures_b))

pub entries_b_lem : length (back table_b 3 2).entries ≡ 2
unfolding opened table_b
entries_b_lem = refl

closures_room_b : (back table_b 3 1).report.closures ≡ 2
unfolding opened table_b
closures_room_b = refl

room_b : answer table_b 3 1 ≡ OutOfRoom
room_b =
    (room_exactly table_b 3 3 1 2 (omega arith) (omega (arith, closures_room_b)) (omega arith)).exactly.1 (omega (arith, entries_b_lem))

-- an edge of B given twice is refused by 7, with its number
twice_b : answer (set (set table_b 103 0) 105 2) 3 2 ≡ Refused (Record 7 3)
unfolding opened table_b
twice_b = refl

order_b : Breaks (set (set table_b 103 0) 105 2) (Record 7 3)
order_b = (refused_exactly (set (set table_b 103 0) 105 2) 3 2 (Record 7 3)).exactly.0 twice_b

-- ---- the demands at R, which has trees without end
noncircular_r : answer table_r 5 2 ≡ Noncircular
unfolding opened table_r
noncircular_r = refl

none_r : NoncircularNone table_r
none_r = noncircular_none table_r 5 2 noncircular_r

closures_r : (back table_r 5 2).report.closures ≡ 5
unfolding opened table_r
closures_r = refl

steps_r : answer table_r 4 2 ≡ OutOfSteps
steps_r = (steps_exactly table_r 4 5 2 (omega arith)).exactly.1 (omega (arith, closures_r))

entries_r : length (back table_r 5 2).entries ≡ 2
unfolding opened table_r
entries_r = refl

closures_room_r : (back table_r 5 1).report.closures ≡ 2
unfolding opened table_r
closures_room_r = refl

room_r : answer table_r 5 1 ≡ OutOfRoom
room_r =
    (room_exactly table_r 5 5 1 2 (omega arith) (omega (arith, closures_room_r)) (omega arith)).exactly.1 (omega (arith, entries_r))

unbroken_r : NoRuleBroken table_r
unbroken_r = when_noncircular table_r 5 2 noncircular_r

more_than_one : MorePairs table_r 1
more_than_one =
    (room_counts table_r 5 1 unbroken_r none_r (λ e. let z : ◌≡◌ {A = ℕ} 0 1 = cc room_r in omega arith)).exactly.0 room_r

tree_r : StartTree table_r (node 1 (cons (node 0 nil) nil))
unfolding opened table_r
tree_r = record { complete = (omega arith, (refl, (omega arith, tt), tt)); root = refl }

goes_on_r : NeverStill table_r (node 1 (cons (node 0 nil) nil))
goes_on_r = never_still_start table_r 5 2 noncircular_r (node 1 (cons (node 0 nil) nil)) tree_r

-- one byte less is refused by 3
short_r : answer (take 67 table_r) 5 2 ≡ Refused (Rule 3)
unfolding opened table_r
short_r = refl

offsets_r : Breaks (take 67 table_r) (Rule 3)
offsets_r = (refused_exactly (take 67 table_r) 5 2 (Rule 3)).exactly.0 short_r

-- ---- a spare symbol: no tree from the start symbol has a circle
noncircular_spare : answer table_spare 2 1 ≡ Noncircular
unfolding opened table_spare
noncircular_spare = refl

pub none_spare : NoncircularNone table_spare
none_spare = noncircular_none table_spare 2 1 noncircular_spare

-- yet a finite complete tree rooted at the spare symbol has one
tree_spare : TreeOf table_spare (node 1 nil)
unfolding opened table_spare
tree_spare = (omega arith, tt)

circle_spare : HasCircle table_spare (node 1 nil)
unfolding opened table_spare
circle_spare =
    (here 0, one (Joined.own (record { edge = small_edge 1 0 0 0 0; among = Memᴰ.head refl; which = refl; from = refl; to = refl })))

-- so of trees rooted at any symbol the demand would be false
not_any_root : ¬ ((t : Tree) → TreeOf table_spare t → ¬ HasCircle table_spare t)
not_any_root none = none (node 1 nil) tree_spare circle_spare

-- the tree does not stand below the start symbol
not_below_spare : ¬ BelowStart table_spare (node 1 nil)
not_below_spare f = none_spare (circle_from_start (grammar_of table_spare) (node 1 nil) f circle_spare)

-- and only the tree of production 0 has a pair to be stored
stored_spare : stored_pairs table_spare (back table_spare 2 1) ≡ (0, 0) ∷ []
unfolding opened table_spare
stored_spare = refl

pairs_spare : (q : ℕ × ℕ) → Memᴰ q ((0, 0) ∷ []) ↔ TreePair table_spare q
pairs_spare q =
    subst (λ (l : List (ℕ × ℕ)). Memᴰ q l ↔ TreePair table_spare q) stored_spare
    ((room_counts table_spare 2 1 (when_noncircular table_spare 2 1 noncircular_spare) none_spare
    (λ e. let z : ◌≡◌ {A = ℕ} 0 1 = cc noncircular_spare in omega arith)).those
    (λ e. let z : ◌≡◌ {A = ℕ} 0 1 = cc noncircular_spare in omega arith) q)

-- where the start symbol does reach it, by 0 → 1 in place of 0 → nothing, the shown tree stands below the start symbol, and is not rooted there
abbrev table_reached : List ℕ
table_reached = set (set table_spare 30 1) 32 1

circular_reached : answer table_reached 1 0 ≡ Circular 1
unfolding opened table_spare
circular_reached = refl

shown_reached : shown_tree table_reached (back table_reached 1 0) 1 ≡ node 1 nil
unfolding opened table_spare
shown_reached = refl

below_reached : BelowStart table_reached (node 1 nil)
below_reached = subst (BelowStart table_reached) shown_reached (circular_shown table_reached 1 0 1 circular_reached).from_start

not_rooted_reached : ¬ StartTree table_reached (node 1 nil)
unfolding opened table_spare
not_rooted_reached r = omega (arith, r.root)

-- and an evaluator on the whole tree stands still too
tree_reached : StartTree table_reached (node 0 (cons (node 1 nil) nil))
unfolding opened table_spare
tree_reached = record { complete = (omega arith, (refl, (omega arith, tt), tt)); root = refl }

still_reached : StandsStillLeft table_reached (node 0 (cons (node 1 nil) nil))
unfolding opened table_spare
still_reached =
    stands_still_above table_reached 1 0 1 circular_reached (node 0 (cons (node 1 nil) nil)) (0 ∷ []) tree_reached (down first whole)

-- ---- a right symbol without a finite tree: its production has a circle in its own edges, and no tree from the start symbol has one
noncircular_endless : answer table_endless 2 1 ≡ Noncircular
unfolding opened table_endless
noncircular_endless = refl

none_endless : NoncircularNone table_endless
none_endless = noncircular_none table_endless 2 1 noncircular_endless

own_circle_endless : Circle (Own (grammar_of table_endless) 0)
unfolding opened table_endless
own_circle_endless =
    (at 1 0, one (record { edge = small_edge 0 1 0 1 0; among = Memᴰ.head refl; which = refl; from = refl; to = refl }))

-- ---- a start symbol without a finite tree
mutual
  unfolding opened table_barren

  no_root_barren : (t : Tree) → TreeOf table_barren t → ¬ (root_symbol (grammar_of table_barren) t ≡ 0)
  no_root_barren (node zero ks) c e = no_kid_barren ks c.1
  no_root_barren (node (suc zero) ks) c e = omega (arith, e)
  no_root_barren (node (suc (suc p)) ks) c e = omega (arith, c.0)

  no_kid_barren : (ks : Kids) → ¬ OneEach (grammar_of table_barren) (InTable (grammar_of table_barren)) ks (0 ∷ [])
  no_kid_barren nil w = w
  no_kid_barren (cons t ks) w = no_root_barren t w.1 w.0

pub no_tree_barren : NoStartTree table_barren
unfolding opened table_barren
no_tree_barren (t, r) = no_root_barren t r.complete r.root

noncircular_barren : answer table_barren 0 0 ≡ Noncircular
unfolding opened table_barren
noncircular_barren = refl

pub unbroken_barren : NoRuleBroken table_barren
unbroken_barren = when_noncircular table_barren 0 0 noncircular_barren

nothing_barren : back table_barren 100 10 ≡ outcome Noncircular no_root empty 1
nothing_barren = start_without_tree table_barren 100 10 unbroken_barren no_tree_barren
