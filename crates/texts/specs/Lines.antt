-- The lines that `circ` prints, as bytes. Assumes nothing.
use Rattle.std.specs.Prelude.{Bool, true, false, List, [], ◌∷◌, ◌++◌, ℕ, zero, suc, ◌/◌, eqb, ltb, take}
use Prim.Native.Char.{code}
use Prim.Native.String.{String, [] as []ˢ, ◌∷◌ as ◌∷ˢ◌}
use Rattle.io.specs.Digits.{last_digits}
use Rattle.grammar.specs.Grammar.{production}
use Rattle.grammar.specs.Table.{grammar_of}
use Rattle.grammar.specs.declared.Broken.{Broken}
use Rattle.grammar.specs.declared.Broken.TheVariants.{Rule, Record}
use Rattle.graph.specs.declared.Trail.{Trail}
use Rattle.rules.specs.declared.Answer.{Answer}
use Rattle.rules.specs.declared.Answer.TheVariants.{Noncircular, Circular, Refused, OutOfSteps, OutOfRoom}
use Rattle.rules.specs.declared.Report.{Report}
use Rattle.rules.specs.declared.Entry.{Entry}
use Rattle.rules.specs.Passes.{Outcome}

-- ---- text

abbrev pub ascii : String → List ℕ
ascii []ˢ = []
ascii (c ∷ˢ s) = code c ∷ ascii s

-- one digit below ten, else one more than a tenth of the number has
abbrev pub one_or : Bool → (ℕ → ℕ) → ℕ → ℕ
one_or true more n = 1
one_or false more n = suc (more (n / 10))

unfoldable pub places_by : ℕ → ℕ → ℕ
places_by zero n = 1
places_by (suc fuel) n = one_or (ltb n 10) (places_by fuel) n

-- how many decimal digits a number has; it cannot be divided by ten more often than it says itself
unfoldable pub places : ℕ → ℕ
places n = places_by n n

unfoldable pub decimal : ℕ → List ℕ
decimal n = last_digits 10 (places n) n

abbrev pub newline : List ℕ
newline = ascii "\n"

abbrev pub tagged : String → ℕ → List ℕ
tagged tag n = ascii tag ++ decimal n

-- ---- the lines

-- each number after a blank
unfoldable pub spaced : List ℕ → List ℕ
spaced [] = []
spaced (k ∷ ks) = tagged " " k ++ spaced ks

-- the number of the rule that is broken, and that of the record where there is one
abbrev pub broken_numbers : Broken → List ℕ
broken_numbers (Rule k) = k ∷ []
broken_numbers (Record k i) = k ∷ i ∷ []

-- the answer's word before the three numbers; a refusal stands alone, with its own
abbrev pub answered : Answer → List ℕ → List ℕ
answered Noncircular numbers = ascii "noncircular" ++ numbers
answered (Circular p) numbers = ascii "circular" ++ numbers
answered (Refused b) numbers = ascii "refused" ++ spaced (broken_numbers b) ++ newline
answered OutOfSteps numbers = ascii "out-of-steps" ++ numbers
answered OutOfRoom numbers = ascii "out-of-room" ++ numbers

unfoldable pub counts : ℕ → ℕ → ℕ → List ℕ
counts closures entries passes =
    tagged " closures " closures ++ tagged " entries " entries ++ tagged " passes " passes ++ newline

unfoldable pub first_line : Report → List ℕ
first_line r = answered r.answer (counts r.closures r.entries r.passes)

abbrev pub kids_text : List ℕ → List ℕ
kids_text kids = ascii " kids" ++ spaced kids

unfoldable pub entry_line : ℕ → ℕ → ℕ → List ℕ → ℕ → List ℕ
entry_line number symbol production kids graph =
    tagged "entry " number
    ++ tagged " symbol " symbol
    ++ tagged " production " production
    ++ kids_text kids
    ++ tagged " graph " graph
    ++ newline

unfoldable pub root_line : ℕ → List ℕ → List ℕ
root_line production kids = tagged "root production " production ++ kids_text kids ++ newline

-- the word of a link: an edge of the production, or a pair of a subtree
abbrev pub link_word : Bool → List ℕ
link_word true = ascii " edge"
link_word false = ascii " pair"

-- a node of the circle, and the link that leaves it
unfoldable pub link_text : ℕ → ℕ → List ℕ
link_text node mark = tagged " " node ++ link_word (eqb mark 1)

-- each node with the mark beside it
unfoldable pub links_text : List ℕ → List ℕ → List ℕ
links_text [] marks = []
links_text (x ∷ xs) [] = []
links_text (x ∷ xs) (m ∷ ms) = link_text x m ++ links_text xs ms

unfoldable pub circle_line : Trail → List ℕ
circle_line t = ascii "circle" ++ links_text (take t.len t.nodes) (take t.len t.marks) ++ newline

-- ---- what is printed

-- how many right symbols a production of the table has
abbrev pub kids_in : List ℕ → ℕ → ℕ
kids_in bs p = (production (grammar_of bs) p).n

-- the lines of the entries, numbered from i on; `n` says how many right symbols a production has, and only so many kids count
unfoldable pub entry_lines : (ℕ → ℕ) → ℕ → List Entry → List ℕ
entry_lines n i [] = []
entry_lines n i (e ∷ es) =
    entry_line i e.symbol e.production (take (n e.production) e.kids) e.graph ++ entry_lines n (suc i) es

-- what follows the entries of a circular answer, by the root's production: its line and the circle's
abbrev pub root_lines : (ℕ → ℕ) → Report → ℕ → List ℕ
root_lines n r p = root_line p (take (n p) r.root) ++ circle_line r.circle

-- what follows the first line
unfoldable pub rest : Answer → List ℕ → (ℕ → List ℕ) → List ℕ
rest Noncircular entries root = entries
rest (Circular p) entries root = entries ++ root p
rest (Refused b) entries root = []
rest OutOfSteps entries root = entries
rest OutOfRoom entries root = entries

unfoldable pub printed : (ℕ → ℕ) → Outcome → List ℕ
printed n o = first_line o.report ++ rest o.report.answer (entry_lines n 0 o.entries) (root_lines n o.report)

-- to name this on an `unfolding` line is to open every rule
unfoldable pub lines_opened : Unit {0}
unfolding places_by places decimal counts first_line spaced entry_line root_line link_text links_text circle_line entry_lines rest printed
lines_opened = tt
