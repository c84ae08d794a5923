-- What a user must be able to say, from the bytes of a table, a closure limit and a room to trees and evaluators. Each demand is a closed
-- statement about a version of the test, its hypotheses included (`..Always`), over a record of what is asked of one outcome. What an outcome
-- is compared with is what the rules give. Assumes nothing.
use Rattle.std.specs.Prelude.{true, false, ◌↔◌, ◌≡◌, ℕ, ◌+◌, ◌*◌, ◌^◌, ◌≤◌, ◌<◌, length}
use mathlib.Core.List.{List, Memᴰ}
use Rattle.numbers.specs.Lists.{Distinct}
use Rattle.numbers.specs.Number.{bit}
use Rattle.numbers.specs.Paths.{Plus}
use Rattle.grammar.specs.Grammar.{Grammar, production, rights}
use Rattle.grammar.specs.Table.{width_of, grammar_of}
use Rattle.grammar.specs.Rules.{Breaks}
use Rattle.trees.specs.Tree.{Tree, root_symbol, Instance, here, Complete, InTable, TreeEdge, instances}
use Rattle.trees.specs.Address.{Subtree}
use Rattle.trees.specs.TakesPart.{RootedAt, HasTree, FromStart}
use Rattle.trees.specs.Evaluator.{Computed, left, not_given, MayTake, StandsStill, Reached, Position, Evaluator, play}
use Rattle.trees.specs.Record as record_of_trees
use Rattle.trees.specs.Record.{shown_entry, shown, pairs}
use Rattle.grammar.specs.declared.Broken.{Broken}
use Rattle.rules.specs.declared.Answer.{Answer}
use Rattle.rules.specs.declared.Answer.TheVariants.{Noncircular, Circular, Refused, OutOfSteps, OutOfRoom}
use Rattle.rules.specs.declared.Entry.{Entry}
use Rattle.rules.specs.Passes.{Outcome, outcome, entry, no_root, empty, counting}
use Rattle.rules.specs.Test.{test}

-- ---- words

-- a version of the test, right or wrong: from the bytes of a table, a closure limit and a room to what comes back
abbrev pub Version : Type 0
Version = List ℕ → ℕ → ℕ → Outcome

-- what comes back by the rules
abbrev pub back : Version
back bs limit room = test bs limit room

abbrev pub said : Outcome → Answer
said o = o.report.answer

abbrev pub answer : List ℕ → ℕ → ℕ → Answer
answer bs limit room = said (back bs limit room)

abbrev pub NoRuleBroken : List ℕ → Type 0
NoRuleBroken bs = (b : Broken) → ¬ Breaks bs b

-- a finite complete tree of the table's grammar, rooted at any symbol
abbrev pub TreeOf : List ℕ → Tree → Type 0
TreeOf bs = Complete (grammar_of bs) (InTable (grammar_of bs))

-- a tree from the start symbol: a finite complete tree rooted there
abbrev pub StartTree : List ℕ → Tree → Type 0
StartTree bs = RootedAt (grammar_of bs) (grammar_of bs).start

-- a tree that stands below the start symbol: a subtree, at some address, of a tree from there; so is that tree itself, at the empty address
abbrev pub BelowStart : List ℕ → Tree → Type 0
BelowStart bs = FromStart (grammar_of bs)

-- the start symbol has no finite tree
abbrev pub NoStartTree : List ℕ → Type 0
NoStartTree bs = ¬ HasTree (grammar_of bs) (grammar_of bs).start

-- a path of one or more edges inside a tree
abbrev pub PathIn : List ℕ → Tree → Instance → Instance → Type 0
PathIn bs t = Plus (TreeEdge (grammar_of bs) t)

-- a circle: such a path back to where it began
abbrev pub OnCircle : List ℕ → Tree → Instance → Type 0
OnCircle bs t y = PathIn bs t y y

abbrev pub HasCircle : List ℕ → Tree → Type 0
HasCircle bs t = (y : Instance) × OnCircle bs t y

-- the grammar is circular: some tree from the start symbol has a circle
abbrev pub SomeCircle : List ℕ → Type 0
SomeCircle bs = (t : Tree) × StartTree bs t × HasCircle bs t

-- The graph of a tree as one number of 64 bits: it holds the pair (a, b) of root attributes, worth 2 to the power 8a + b, exactly if a path
-- of at least one edge leads from a to b inside the tree. There is no path from or to a root attribute of any other number.
pub record GraphOf (bs : List ℕ) (t : Tree) (graph : ℕ) : Type 0 where
  pub number : graph < 2 ^ (width_of bs * width_of bs)
  pub bits : (a b : ℕ) → a < width_of bs → b < width_of bs → (bit (width_of bs * a + b) graph ≡ 1) ↔ PathIn bs t (here a) (here b)
  pub no_other : (a b : ℕ) → PathIn bs t (here a) (here b) → (a < width_of bs) × (b < width_of bs)

-- a symbol and a graph that some tree below the start symbol has, at its root
pub record TreePair (bs : List ℕ) (q : ℕ × ℕ) : Type 0 where
  pub tree : Tree
  pub from_start : BelowStart bs tree
  pub symbol : root_symbol (grammar_of bs) tree ≡ q.0
  pub graph : GraphOf bs tree q.1

abbrev pub told : Grammar → List Entry → ℕ → record_of_trees.Entry ℕ
told g es k =
    record {
      symbol = (entry es k).symbol;
      graph = (entry es k).graph;
      production = (entry es k).production;
      kids = counting (rights (production g (entry es k).production)) (entry es k).kids;
    }

abbrev pub entry_of : List ℕ → Outcome → ℕ → record_of_trees.Entry ℕ
entry_of bs o = told (grammar_of bs) o.entries

-- the tree of an entry
abbrev pub entry_tree : List ℕ → Outcome → ℕ → Tree
entry_tree bs o = shown_entry (entry_of bs o)

-- the entry numbers of a circular answer's root, one for each right symbol of its production
abbrev pub root_kids : List ℕ → Outcome → ℕ → List ℕ
root_kids bs o p = counting (rights (production (grammar_of bs) p)) o.report.root

-- the shown tree of a circular answer: the root's production, and below it the trees of its entry numbers
abbrev pub shown_tree : List ℕ → Outcome → ℕ → Tree
shown_tree bs o p = shown (entry_of bs o) p (root_kids bs o p)

-- ---- demand 1: a bad table is refused by number, and no other; then nothing is counted or stored
pub record RefusedExactly (bs : List ℕ) (b : Broken) (o : Outcome) : Type 0 where
  pub exactly : (said o ≡ Refused b) ↔ Breaks bs b
  pub nothing : Breaks bs b → o ≡ outcome (Refused b) no_root empty 0

abbrev pub RefusedExactlyAlways : Version → Type 0
RefusedExactlyAlways v = (bs : List ℕ) (limit room : ℕ) (b : Broken) → RefusedExactly bs b (v bs limit room)

-- ---- demand 2: the verdict

-- an entry: the tree that it shows is complete and stands below the start symbol, with the entry's symbol at its root and the entry's graph
pub record EntryShown (bs : List ℕ) (k : ℕ) (o : Outcome) : Type 0 where
  pub complete : TreeOf bs (entry_tree bs o k)
  pub from_start : BelowStart bs (entry_tree bs o k)
  pub symbol : root_symbol (grammar_of bs) (entry_tree bs o k) ≡ (entry_of bs o k).symbol
  pub graph : GraphOf bs (entry_tree bs o k) (entry_of bs o k).graph
  -- the tree is finite because each number is smaller than its parent's
  pub earlier : (j : ℕ) → Memᴰ j (entry_of bs o k).kids → j < k
  -- so nothing is cut off: it is again the entry's production over the trees of its entry numbers
  pub again : entry_tree bs o k ≡ shown (entry_of bs o) (entry_of bs o k).production (entry_of bs o k).kids

-- under every answer
abbrev pub EntriesShownAlways : Version → Type 0
EntriesShownAlways v =
    (bs : List ℕ) (limit room k : ℕ) → k < length (v bs limit room).entries → EntryShown bs k (v bs limit room)

-- after circular: the shown tree is complete, stands below the start symbol and has a circle; the entry numbers of its root are those of
-- stored entries
pub record CircularShown (bs : List ℕ) (p : ℕ) (o : Outcome) : Type 0 where
  pub complete : TreeOf bs (shown_tree bs o p)
  pub from_start : BelowStart bs (shown_tree bs o p)
  pub circle : HasCircle bs (shown_tree bs o p)
  pub earlier : (j : ℕ) → Memᴰ j (root_kids bs o p) → j < length o.entries

abbrev pub CircularShownAlways : Version → Type 0
CircularShownAlways v =
    (bs : List ℕ) (limit room p : ℕ) → said (v bs limit room) ≡ Circular p → CircularShown bs p (v bs limit room)

-- after noncircular: no tree from the start symbol has a circle
abbrev pub NoncircularNone : List ℕ → Type 0
NoncircularNone bs = ¬ SomeCircle bs

abbrev pub NoncircularNoneAlways : Version → Type 0
NoncircularNoneAlways v = (bs : List ℕ) (limit room : ℕ) → said (v bs limit room) ≡ Noncircular → NoncircularNone bs

-- where the start symbol has no finite tree: noncircular, no closure, no entry, one pass
abbrev pub NothingTried : Outcome → Type 0
NothingTried o = o ≡ outcome Noncircular no_root empty 1

abbrev pub NothingTriedAlways : Version → Type 0
NothingTriedAlways v = (bs : List ℕ) (limit room : ℕ) → NoRuleBroken bs → NoStartTree bs → NothingTried (v bs limit room)

-- under every answer no more closures are made than the limit and no more entries stored than the room, and the report counts the entries;
-- out of steps comes at the limit, and out of room at the room
pub record LimitsKept (limit R : ℕ) (o : Outcome) : Type 0 where
  pub closures : o.report.closures ≤ limit
  pub entries : length o.entries ≤ R
  pub counted : o.report.entries ≡ length o.entries
  pub at_limit : said o ≡ OutOfSteps → o.report.closures ≡ limit
  pub at_room : said o ≡ OutOfRoom → length o.entries ≡ R

abbrev pub LimitsKeptAlways : Version → Type 0
LimitsKeptAlways v = (bs : List ℕ) (limit R : ℕ) → LimitsKept limit R (v bs limit R)

-- out of steps at the limit L comes exactly if with a greater limit M the passes make more than L closures; else M changes nothing
pub record StepsExactly (bs : List ℕ) (L M room : ℕ) (o : Outcome) : Type 0 where
  pub exactly : (said o ≡ OutOfSteps) ↔ (L < (back bs M room).report.closures)
  pub else : ¬ (said o ≡ OutOfSteps) → back bs M room ≡ o

abbrev pub StepsExactlyAlways : Version → Type 0
StepsExactlyAlways v = (bs : List ℕ) (L M room : ℕ) → L < M → StepsExactly bs L M room (v bs L room)

-- out of room at R comes exactly if with more room S the passes store more than R entries, within l closures; else more room changes nothing
pub record RoomExactly (bs : List ℕ) (limit l R S : ℕ) (o : Outcome) : Type 0 where
  pub exactly : (said o ≡ OutOfRoom) ↔ (R < length (back bs l S).entries)
  pub else : ¬ (said o ≡ OutOfRoom) → back bs limit S ≡ o

-- l is the limit, or the number of closures that were made, or any number between them
abbrev pub RoomExactlyAlways : Version → Type 0
RoomExactlyAlways v =
    (bs : List ℕ) (limit l R S : ℕ) → R < S → (back bs limit R).report.closures ≤ l → l ≤ limit
    → RoomExactly bs limit l R S (v bs limit R)

-- more than R different pairs of root symbol and graph
abbrev pub MorePairs : List ℕ → ℕ → Type 0
MorePairs bs R = (l : List (ℕ × ℕ)) × Distinct l × (R < length l) × ((q : ℕ × ℕ) → Memᴰ q l → TreePair bs q)

-- the symbols and graphs of the entries
abbrev pub stored_pairs : List ℕ → Outcome → List (ℕ × ℕ)
stored_pairs bs o = pairs (entry_of bs o) (length o.entries)

-- out of room exactly if the trees below the start symbol have more than R different pairs; else the entries are those pairs, each once
pub record RoomCounts (bs : List ℕ) (R : ℕ) (o : Outcome) : Type 0 where
  pub exactly : (said o ≡ OutOfRoom) ↔ MorePairs bs R
  pub once : Distinct (stored_pairs bs o)
  pub those : ¬ (said o ≡ OutOfRoom) → (q : ℕ × ℕ) → Memᴰ q (stored_pairs bs o) ↔ TreePair bs q

-- where the table is taken, no tree from the start symbol has a circle and the run does not end out of steps
abbrev pub RoomCountsAlways : Version → Type 0
RoomCountsAlways v =
    (bs : List ℕ) (limit R : ℕ) → NoRuleBroken bs → NoncircularNone bs → ¬ (said (v bs limit R) ≡ OutOfSteps)
    → RoomCounts bs R (v bs limit R)

-- ---- demand 3: evaluators, on a tree t whose root has its inherited values given
module _ (bs : List ℕ) (t : Tree) where
  -- y is a value of t
  abbrev pub ValueOf : Instance → Type 0
  ValueOf y = Memᴰ y (instances (grammar_of bs) t)

  -- where an evaluator comes by its own choices in as many turns as there are values not given
  abbrev pub play_end : Evaluator (grammar_of bs) t → Position (grammar_of bs) t
  play_end ev = play (grammar_of bs) t ev (not_given (grammar_of bs) t)

  -- by its own choices it takes a value at each turn, and stands still when all that is not given is taken: every value is computed
  pub record Finishes (ev : Evaluator (grammar_of bs) t) : Type 0 where
    pub takes : (k : ℕ) → k ≤ not_given (grammar_of bs) t → (play (grammar_of bs) t ev k).takings ≡ k
    pub stops : StandsStill (grammar_of bs) t (play_end ev).computed
    pub computes : (y : Instance) → ValueOf y → (play_end ev).computed y ≡ true

  pub record NeverStill : Type 0 where
    -- there is an evaluator, and each one finishes
    pub some : Evaluator (grammar_of bs) t
    pub each : (ev : Evaluator (grammar_of bs) t) → Finishes ev
    -- whatever is computed: where a value is left over, some value may be taken
    pub goes_on : (c : Computed Instance) (y : Instance) → ValueOf y → c y ≡ false → (z : Instance) × MayTake (grammar_of bs) t c z
    -- whoever takes in any order: each taking leaves one value less, and where nothing may be taken all is computed
    pub counts :
        {n : ℕ} {d : Computed Instance} → Reached (grammar_of bs) t n d
        → n + left d (instances (grammar_of bs) t) ≡ not_given (grammar_of bs) t
    pub all_computed :
        {n : ℕ} {d : Computed Instance} → Reached (grammar_of bs) t n d → StandsStill (grammar_of bs) t d
        → (n ≡ not_given (grammar_of bs) t) × ((y : Instance) → ValueOf y → d y ≡ true)

  -- by its own choices it comes to stand still before all that is not given is taken: each value on a circle is left over, and one there is
  pub record GetsStuck (ev : Evaluator (grammar_of bs) t) : Type 0 where
    pub stops : StandsStill (grammar_of bs) t (play_end ev).computed
    pub early : (play_end ev).takings < not_given (grammar_of bs) t
    pub circles_left : (y : Instance) → OnCircle bs t y → ValueOf y × ((play_end ev).computed y ≡ false)
    pub one_left : (y : Instance) × ValueOf y × ((play_end ev).computed y ≡ false)

  pub record StandsStillLeft : Type 0 where
    -- there is an evaluator, and each one gets stuck
    pub some : Evaluator (grammar_of bs) t
    pub each : (ev : Evaluator (grammar_of bs) t) → GetsStuck ev
    -- whoever takes in any order: fewer values are taken than are not given, and each value on a circle is left over
    pub fewer : {n : ℕ} {d : Computed Instance} → Reached (grammar_of bs) t n d → n < not_given (grammar_of bs) t
    pub left_over :
        {n : ℕ} {d : Computed Instance} → Reached (grammar_of bs) t n d
        → (y : Instance) → OnCircle bs t y → ValueOf y × (d y ≡ false)

-- after noncircular: on any tree from the start symbol, and on any subtree of one
abbrev pub NeverStillAlways : Version → Type 0
NeverStillAlways v =
    (bs : List ℕ) (limit room : ℕ) → said (v bs limit room) ≡ Noncircular → (t : Tree) → BelowStart bs t → NeverStill bs t

-- after circular: on the shown tree
abbrev pub StandsStillLeftAlways : Version → Type 0
StandsStillLeftAlways v =
    (bs : List ℕ) (limit room p : ℕ) → said (v bs limit room) ≡ Circular p → StandsStillLeft bs (shown_tree bs (v bs limit room) p)

-- and on any tree from the start symbol that has the shown tree at some address
abbrev pub StandsStillAbove : List ℕ → Tree → Type 0
StandsStillAbove bs s = (t : Tree) (d : List ℕ) → StartTree bs t → Subtree t d s → StandsStillLeft bs t

abbrev pub StandsStillAboveAlways : Version → Type 0
StandsStillAboveAlways v =
    (bs : List ℕ) (limit room p : ℕ) → said (v bs limit room) ≡ Circular p → StandsStillAbove bs (shown_tree bs (v bs limit room) p)

-- ---- and every outcome, with its counts, its entries and its circle, is that of the rules
abbrev pub PassesFollowed : Version → Type 0
PassesFollowed v = (bs : List ℕ) (limit room : ℕ) → v bs limit room ≡ back bs limit room
