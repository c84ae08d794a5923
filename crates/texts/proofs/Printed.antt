-- What is printed: of a refused table, and for the small grammars from their bytes. Assumes nothing.
use mathlib.Core.Path.{◌≡◌, refl}
use mathlib.Core.List.{List, [], ◌∷◌, ◌++◌, append-nil}
use Prim.Native.Nat.{ℕ}
use lib.ListN.{set}
use Rattle.grammar.specs.declared.Broken.{Broken}
use Rattle.rules.specs.declared.Answer.TheVariants.{Refused}
use Rattle.rules.specs.Passes.{Outcome}
use Rattle.rules.specs.Test.{test}
use Rattle.rules.specs.Opened.{opened}
use Rattle.rules.specs.Small.{table_a, table_b, table_q}
use Rattle.texts.specs.Lines.{ascii, newline, decimal, spaced, broken_numbers, first_line, rest, kids_in, printed, lines_opened}

abbrev printed_of : List ℕ → ℕ → ℕ → List ℕ
printed_of table limit room = printed (kids_in table) (test table limit room)

-- a refused table prints nothing else
pub refused_only : (n : ℕ → ℕ) (o : Outcome) (b : Broken) → o.report.answer ≡ Refused b
    → printed n o ≡ ascii "refused" ++ spaced (broken_numbers b) ++ newline
unfolding printed first_line rest
refused_only n o b e = rw (e, append-nil)

pub decimals :
    decimal 0 ++ decimal 9 ++ decimal 10 ++ decimal 100 ++ decimal 18446744073709551615 ≡ ascii "091010018446744073709551615"
unfolding lines_opened
decimals = refl

-- B's report, whole, as `circ` prints it
pub printed_b :
    printed_of table_b 1000000 1024
    ≡ ascii "circular closures 3 entries 2 passes 2\n"
    ++ ascii "entry 0 symbol 1 production 1 kids graph 2052\n"
    ++ ascii "entry 1 symbol 1 production 2 kids graph 2048\n"
    ++ ascii "root production 0 kids 0\n"
    ++ ascii "circle 8 pair 10 edge 9 pair 11 edge\n"
unfolding opened lines_opened table_b
printed_b = refl

abbrev entries_a : List ℕ
entries_a =
    ascii "entry 0 symbol 1 production 1 kids graph 4\n"
    ++ ascii "entry 1 symbol 1 production 2 kids graph 2048\n"
    ++ ascii "entry 2 symbol 0 production 0 kids 0 graph 0\n"

-- A with limits enough, and with one closure less
pub printed_a : printed_of table_a 10 3 ≡ ascii "noncircular closures 10 entries 3 passes 3\n" ++ entries_a
unfolding opened lines_opened table_a
printed_a = refl

pub printed_steps : printed_of table_a 9 3 ≡ ascii "out-of-steps closures 9 entries 3 passes 3\n" ++ entries_a
unfolding opened lines_opened table_a
printed_steps = refl

-- several kids stand in the order of the right symbols
pub printed_q :
    printed_of table_q 100 10
    ≡ ascii "noncircular closures 12 entries 6 passes 2\n"
    ++ ascii "entry 0 symbol 1 production 0 kids graph 0\n"
    ++ ascii "entry 1 symbol 1 production 1 kids graph 2\n"
    ++ ascii "entry 2 symbol 0 production 2 kids 0 0 graph 0\n"
    ++ ascii "entry 3 symbol 0 production 2 kids 0 1 graph 4\n"
    ++ ascii "entry 4 symbol 0 production 2 kids 1 0 graph 2\n"
    ++ ascii "entry 5 symbol 0 production 2 kids 1 1 graph 6\n"
unfolding opened lines_opened table_q
printed_q = refl

-- B with room for no more than one entry
pub printed_room :
    printed_of table_b 3 1
    ≡ ascii "out-of-room closures 2 entries 1 passes 1\n" ++ ascii "entry 0 symbol 1 production 1 kids graph 2052\n"
unfolding opened lines_opened table_b
printed_room = refl

-- B with one byte more
pub printed_refused : printed_of (table_b ++ (0 ∷ [])) 1000000 1024 ≡ ascii "refused 3\n"
unfolding opened lines_opened table_b
printed_refused = refl

-- A whose second edge has a target that is not allowed
pub printed_record : printed_of (set (set table_a 91 1) 93 2) 1000000 1024 ≡ ascii "refused 13 1\n"
unfolding opened lines_opened table_a
printed_record = refl
