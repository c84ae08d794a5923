-- No line has more than 128 bytes but the circle's, which has no more than 640, where the numbers are those of their types. Assumes nothing.
use mathlib.Core.Path.{◌≡◌, refl}
use mathlib.Core.Bool.{Bool, true, false}
use mathlib.Core.List.{List, [], ◌∷◌}
use Prim.Native.Nat.{ℕ, zero, suc, ◌*◌, ◌^◌, ◌≤◌, ◌<◌, zero-le}
use native.Mathlib.Omega.{arith}
use lib.Dec.{eqb}
use lib.ListN.{length, get_or, take, length-append}
use Rattle.grammar.specs.declared.Broken.{Broken}
use Rattle.grammar.specs.declared.Broken.TheVariants.{Rule, Record}
use Rattle.graph.specs.declared.Trail.{Trail}
use Rattle.rules.specs.declared.Answer.{Answer}
use Rattle.rules.specs.declared.Answer.TheVariants.{Noncircular, Circular, Refused, OutOfSteps, OutOfRoom}
use Rattle.rules.specs.declared.Report.{Report}
use Rattle.texts.specs.Lines.{decimal, counts, broken_numbers, answered, first_line, spaced, entry_line, root_line, link_word, link_text, links_text, circle_line}
use Rattle.texts.proofs.Decimal.{at_most, length_decimal}

-- at most five digits for 16 bits, and at most twenty for 64
short : (n : ℕ) → n < 2 ^ 16 → length (decimal n) ≤ 5
short n h = rw (length_decimal n) (at_most n 4 (omega arith))

long : (n : ℕ) → n < 2 ^ 64 → length (decimal n) ≤ 20
long n h = rw (length_decimal n) (at_most n 19 (omega arith))

-- each entry number takes a blank and at most five digits
spaced_short : (n : ℕ) (ks : List ℕ) → ((i : ℕ) → get_or ks i 0 < 2 ^ 16) → length (spaced (take n ks)) ≤ 6 * length ks
unfolding spaced
spaced_short zero ks h = zero-le
spaced_short (suc n) [] h = zero-le
spaced_short (suc n) (k ∷ ks) h =
    let one = short k (h 0) in
    let rest = spaced_short n ks (λ i. h (suc i)) in
    simp length-append (omega arith)

counts_short : (closures entries passes : ℕ) → closures < 2 ^ 32 → entries < 2 ^ 16 → passes < 2 ^ 16 → length (counts closures entries passes) ≤ 58
unfolding counts
counts_short closures entries passes hc he hp =
    let c = long closures (omega arith) in
    let e = short entries he in
    let p = short passes hp in
    simp length-append (omega arith)

-- the number of a rule takes 8 bits, and that of a record 16
pub record InTypes (a : Answer) : Type 0 where
  pub rule : (k : ℕ) → a ≡ Refused (Rule k) → k < 2 ^ 8
  pub of_record : (k i : ℕ) → a ≡ Refused (Record k i) → (k < 2 ^ 8) × (i < 2 ^ 16)

broken_short : (b : Broken) → InTypes (Refused b) → length (spaced (broken_numbers b)) ≤ 12
unfolding spaced
broken_short (Rule k) h = let few = short k (let small = h.rule k refl in omega arith) in simp length-append (omega arith)
broken_short (Record k i) h =
    let small = h.of_record k i refl in
    let few = short k (omega arith) in
    let more = short i small.1 in
    simp length-append (omega arith)

pub first_short :
    (report : Report) →
    InTypes report.answer →
    report.closures < 2 ^ 32 →
    report.entries < 2 ^ 16 →
    report.passes < 2 ^ 16 →
    length (first_line report) ≤ 128
unfolding first_line
first_short report hk hc he hp = by report.answer _ hk (counts_short _ _ _ hc he hp)
  where
    by : (a : Answer) (numbers : List ℕ) → InTypes a → length numbers ≤ 58 → length (answered a numbers) ≤ 128
    by Noncircular numbers hk h = simp length-append (omega arith)
    by (Circular p) numbers hk h = simp length-append (omega arith)
    by (Refused b) numbers hk h = let few = broken_short b hk in simp length-append (omega arith)
    by OutOfSteps numbers hk h = simp length-append (omega arith)
    by OutOfRoom numbers hk h = simp length-append (omega arith)

module _ (kids : List ℕ) (n : ℕ) (seven : length kids ≡ 7) (h : (i : ℕ) → get_or kids i 0 < 2 ^ 16) where
  pub entry_short :
      (number symbol production graph : ℕ) →
      number < 2 ^ 16 →
      symbol < 2 ^ 16 →
      production < 2 ^ 16 →
      graph < 2 ^ 64 →
      length (entry_line number symbol production (take n kids) graph) ≤ 128
  unfolding entry_line
  entry_short number symbol production graph hn hs hp hg =
      let a = short number hn in
      let b = short symbol hs in
      let c = short production hp in
      let d = long graph hg in
      let k = spaced_short n kids h in
      simp length-append (omega arith)

  pub root_short : (production : ℕ) → production < 2 ^ 16 → length (root_line production (take n kids)) ≤ 128
  unfolding root_line
  root_short production hp =
      let a = short production hp in
      let k = spaced_short n kids h in
      simp length-append (omega arith)

-- ---- the circle

-- a link takes a blank, at most three digits and its word
pub link_short : (node mark : ℕ) → node < 2 ^ 8 → length (link_text node mark) ≤ 9
unfolding link_text
link_short node mark h =
    let digits : length (decimal node) ≤ 3 = rw (length_decimal node) (at_most node 2 (omega arith)) in
    let word = word_is (eqb mark 1) in
    simp length-append (omega arith)
  where
    word_is : (b : Bool) → length (link_word b) ≡ 5
    word_is true = refl
    word_is false = refl

links_short : (n : ℕ) (xs ms : List ℕ) → ((i : ℕ) → get_or xs i 0 < 2 ^ 8) → length (links_text (take n xs) ms) ≤ 9 * length xs
unfolding links_text
links_short zero xs ms h = zero-le
links_short (suc n) [] ms h = zero-le
links_short (suc n) (x ∷ xs) [] h = zero-le
links_short (suc n) (x ∷ xs) (m ∷ ms) h =
    let one = link_short x m (h 0) in
    let rest = links_short n xs ms (λ i. h (suc i)) in
    simp length-append (omega arith)

pub circle_short : (t : Trail) → length t.nodes ≡ 64 → ((i : ℕ) → get_or t.nodes i 0 < 2 ^ 8) → length (circle_line t) ≤ 640
unfolding circle_line
circle_short t all h =
    let links = links_short t.len t.nodes (take t.len t.marks) h in
    simp length-append (omega arith)
