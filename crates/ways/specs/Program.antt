-- The demands of a program's own result: of the report r and the slices τ that a test over the lent slices σ leaves. What is asked of an
-- outcome is asked of what a caller reads, so the shown tree is that of the slices and of the report's root. Assumes nothing.
use Rattle.std.specs.Prelude.{List, ◌≡◌, ℕ, ◌*◌, ◌≤◌, ◌<◌, length, get_or, take, drop}
use Rattle.grammar.specs.declared.Broken.{Broken}
use Rattle.grammar.specs.Rules.{Breaks}
use Rattle.trees.specs.Tree.{Tree}
use Rattle.rules.specs.declared.Answer.TheVariants.{Noncircular, Circular, OutOfSteps}
use Rattle.rules.specs.declared.Report.{Report}
use Rattle.rules.specs.Passes.{Outcome, entry}
use Rattle.passes.specs.Slices.{Slices, room_of, read_out}
use Rattle.verdict.specs.Demands.{back, said, NoRuleBroken, BelowStart, NoStartTree, shown_tree, RefusedExactly, EntryShown, CircularShown, NoncircularNone, NothingTried, LimitsKept, StepsExactly, RoomExactly, RoomCounts, NeverStill, StandsStillLeft, StandsStillAbove}
use Rattle.verdict.specs.Circle.{CircleSaid, NeverBoth, CircleWaits}

-- the entry k of what comes back stands at k in the slices
pub record Stands (bs : List ℕ) (limit : ℕ) (σ τ : Slices) (k : ℕ) : Type 0 where
  pub symbol : get_or τ.symbols k 0 ≡ (entry (back bs limit (room_of σ)).entries k).symbol
  pub graph : get_or τ.graphs k 0 ≡ (entry (back bs limit (room_of σ)).entries k).graph
  pub production : get_or τ.productions k 0 ≡ (entry (back bs limit (room_of σ)).entries k).production
  pub kids : take 7 (drop (7 * k) τ.kids) ≡ (entry (back bs limit (room_of σ)).entries k).kids

-- the places of the entries from n on are as before
pub record RestBefore (n : ℕ) (σ τ : Slices) : Type 0 where
  pub symbols : drop n τ.symbols ≡ drop n σ.symbols
  pub graphs : drop n τ.graphs ≡ drop n σ.graphs
  pub productions : drop n τ.productions ≡ drop n σ.productions
  pub kids : drop (7 * n) τ.kids ≡ drop (7 * n) σ.kids

-- each slice is as long as before
pub record LongAsBefore (σ τ : Slices) : Type 0 where
  pub symbols : length τ.symbols ≡ length σ.symbols
  pub graphs : length τ.graphs ≡ length σ.graphs
  pub productions : length τ.productions ≡ length σ.productions
  pub kids : length τ.kids ≡ length σ.kids

-- all that is asked of one outcome, for a limit and a room R
pub record Demanded (bs : List ℕ) (limit R : ℕ) (o : Outcome) : Type 0 where
  -- 1: refused by number exactly
  pub refused : (b : Broken) → RefusedExactly bs b o
  -- every entry means a tree
  pub entries : (k : ℕ) → k < length o.entries → EntryShown bs k o
  -- 2: circular with a tree that is shown, noncircular only if no tree from the start symbol has a circle, 8 and 9 exactly
  pub circular : (p : ℕ) → said o ≡ Circular p → CircularShown bs p o
  pub noncircular : said o ≡ Noncircular → NoncircularNone bs
  pub start_without_tree : NoRuleBroken bs → NoStartTree bs → NothingTried o
  pub limits : LimitsKept limit R o
  pub steps : (M : ℕ) → limit < M → StepsExactly bs limit M R o
  pub room : (l S : ℕ) → R < S → o.report.closures ≤ l → l ≤ limit → RoomExactly bs limit l R S o
  pub room_counts : NoRuleBroken bs → NoncircularNone bs → ¬ (said o ≡ OutOfSteps) → RoomCounts bs R o
  -- the circle that is said
  pub circle : CircleSaid bs o
  pub never_both : (p : ℕ) → said o ≡ Circular p → NeverBoth bs p o
  -- 3: evaluators
  pub never_still : said o ≡ Noncircular → (t : Tree) → BelowStart bs t → NeverStill bs t
  pub stands_still : (p : ℕ) → said o ≡ Circular p → StandsStillLeft bs (shown_tree bs o p)
  pub stands_still_above : (p : ℕ) → said o ≡ Circular p → StandsStillAbove bs (shown_tree bs o p)
  pub circle_waits : (p : ℕ) → said o ≡ Circular p → CircleWaits bs p o

pub record Program (bs : List ℕ) (limit : ℕ) (σ : Slices) (r : Report) (τ : Slices) : Type 0 where
  -- the report with its counts, its root and its circle, every entry, and the rest of the room; after a refusal all of it
  pub report : r ≡ (back bs limit (room_of σ)).report
  pub long : LongAsBefore σ τ
  pub entries : (k : ℕ) → k < r.entries → Stands bs limit σ τ k
  pub rest : RestBefore r.entries σ τ
  -- however many places are lent, those beyond 4,096 entries are never used
  pub beyond : RestBefore 4096 σ τ
  pub untouched : (b : Broken) → Breaks bs b → τ ≡ σ
  pub whole : read_out r τ ≡ back bs limit (room_of σ)
  pub demanded : Demanded bs limit (room_of σ) (read_out r τ)
