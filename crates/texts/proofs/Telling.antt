-- What is printed of an outcome tells the outcome: each line is read in one way, word by word and number by number. Assumes nothing.
use mathlib.Core.Path.{◌≡◌, refl, sym, ap, ◌∙◌}
use mathlib.Core.Bool.{Bool, true, false, cond}
use mathlib.Core.List.{List, [], ◌∷◌, ◌++◌, map, append-nil, append_assoc, append_cancel_left}
use Prim.Native.Nat.{ℕ, suc, ◌-◌, ◌<◌}
use native.Mathlib.Omega.{arith}
use lib.Dec.{eqb}
use lib.ListN.{length, get_or, take, drop, replicate, length-map}
use lib.Seq.{take_at}
use Rattle.grammar.specs.Grammar.{Grammar}
use Rattle.grammar.specs.declared.Broken.{Broken}
use Rattle.grammar.specs.declared.Broken.TheVariants.{Rule, Record}
use Rattle.graph.specs.declared.Trail.{Trail}
use Rattle.graph.specs.Parts.{most_nodes}
use Rattle.graph.specs.Marks.{edge_into, mark_of, mark_into, targets_of}
use Rattle.graph.specs.Trails.{filled_up, trail_of}
use Rattle.graph.proofs.Marks.{length_marks}
use Rattle.rules.specs.declared.Answer.{Answer}
use Rattle.rules.specs.declared.Answer.TheVariants.{Noncircular, Circular, Refused, OutOfSteps, OutOfRoom}
use Rattle.rules.specs.declared.Entry.{Entry}
use Rattle.rules.specs.Passes.{Outcome, outcome, entry, seven, no_root, empty}
use Rattle.rules.specs.Test.{circle_said}
use Rattle.texts.specs.Lines.{ascii, newline, tagged, broken_numbers, answered, counts, first_line, spaced, kids_text, entry_line, root_line, link_word, link_text, links_text, circle_line, entry_lines, root_lines, rest, printed}
use Rattle.texts.specs.Telling.{OthersZero, RootZero, BeyondZero, CircleZero, PrintedTells}
use Rattle.texts.proofs.Numbers.{EndsNumber, tagged_told, digit_first}

-- ---- the first line

four : (a b c d r : List ℕ) → a ++ b ++ c ++ d ++ r ≡ a ++ (b ++ (c ++ (d ++ r)))
four a b c d r = simp append_assoc

module _ (c e p c' e' p' : ℕ) (r s : List ℕ) where
  counts_told : counts c e p ++ r ≡ counts c' e' p' ++ s → (c ≡ c') × (e ≡ e') × (p ≡ p') × (r ≡ s)
  unfolding counts
  counts_told h =
      let h₀ =
      sym (four (tagged " closures " c) (tagged " entries " e) (tagged " passes " p) newline r)
      ∙ h
      ∙ four (tagged " closures " c') (tagged " entries " e') (tagged " passes " p') newline s in
      let h₁ = tagged_told " closures " c c' _ _ refl refl h₀ in
      let h₂ = tagged_told " entries " e e' _ _ refl refl h₁.1 in
      let h₃ = tagged_told " passes " p p' _ _ refl refl h₂.1 in
      (h₁.0, h₂.0, h₃.0, append_cancel_left newline r s h₃.1)

-- ---- entry numbers

-- a text before which the entry numbers of a line end: it begins neither with a digit, nor with a number after a blank
pub record EndsKids (r : List ℕ) : Type 0 where
  pub ends : EndsNumber r
  pub none : (k : ℕ) (s : List ℕ) → ¬ (r ≡ tagged " " k ++ s)

ends_spaced : (ks r : List ℕ) → EndsNumber r → EndsNumber (spaced ks ++ r)
unfolding spaced
ends_spaced [] r h = h
ends_spaced (k ∷ ks) r h = refl

spaced_told : (ks ls r s : List ℕ) → EndsKids r → EndsKids s → spaced ks ++ r ≡ spaced ls ++ s → (ks ≡ ls) × (r ≡ s)
unfolding spaced
spaced_told [] [] r s er es h = (refl, h)
spaced_told [] (l ∷ ls) r s er es h = absurd (er.none l (spaced ls ++ s) (h ∙ append_assoc (tagged " " l) (spaced ls) s))
spaced_told (k ∷ ks) [] r s er es h = absurd (es.none k (spaced ks ++ r) (sym h ∙ append_assoc (tagged " " k) (spaced ks) r))
spaced_told (k ∷ ks) (l ∷ ls) r s er es h =
    let h₀ = sym (append_assoc (tagged " " k) (spaced ks) r) ∙ h ∙ append_assoc (tagged " " l) (spaced ls) s in
    let h₁ = tagged_told " " k l (spaced ks ++ r) (spaced ls ++ s) (ends_spaced ks r er.ends) (ends_spaced ls s es.ends) h₀ in
    let h₂ = spaced_told ks ls r s er es h₁.1 in
    (λ i. h₁.0 i ∷ h₂.0 i, h₂.1)

kids_told : (ks ls r s : List ℕ) → EndsKids r → EndsKids s → kids_text ks ++ r ≡ kids_text ls ++ s → (ks ≡ ls) × (r ≡ s)
kids_told ks ls r s er es h =
    spaced_told ks ls r s er es
    (append_cancel_left (ascii " kids") (spaced ks ++ r) (spaced ls ++ s)
    (sym (append_assoc (ascii " kids") (spaced ks) r) ∙ h ∙ append_assoc (ascii " kids") (spaced ls) s))

newline_ends : (r : List ℕ) → EndsKids (newline ++ r)
newline_ends r = record { ends = refl; none = λ k s h. let z : ◌≡◌ {A = ℕ} 10 32 = ap (λ (l : List ℕ). get_or l 0 0) h in omega arith }

-- a refusal is a line alone
broken_told : (b c : Broken) → broken_numbers b ≡ broken_numbers c → b ≡ c
broken_told (Rule k) (Rule l) h = cc
broken_told (Rule k) (Record l i) h = let z : ◌≡◌ {A = ℕ} 0 1 = cc in absurd (omega arith)
broken_told (Record k i) (Rule l) h = let z : ◌≡◌ {A = ℕ} 0 1 = cc in absurd (omega arith)
broken_told (Record k i) (Record l j) h = cc

refused_told : (b c : Broken) → answered (Refused b) [] ++ [] ≡ answered (Refused c) [] ++ [] → b ≡ c
refused_told b c h =
    let t = ascii "refused" in
    broken_told b c
    (spaced_told (broken_numbers b) (broken_numbers c) newline newline (newline_ends []) (newline_ends [])
    (append_cancel_left t (spaced (broken_numbers b) ++ newline) (spaced (broken_numbers c) ++ newline)
    (sym (append_assoc t (spaced (broken_numbers b)) newline)
    ∙ sym (append-nil (t ++ spaced (broken_numbers b) ++ newline))
    ∙ h
    ∙ append-nil (t ++ spaced (broken_numbers c) ++ newline)
    ∙ append_assoc t (spaced (broken_numbers c)) newline))).0

graph_ends : (g : ℕ) (r : List ℕ) → EndsKids (tagged " graph " g ++ r)
graph_ends g r = record { ends = refl; none = λ k s h. digit_first k 103 s _ refl (ap (drop 1) (sym h)) }

-- ---- the line of an entry, and of the root

six : (a b c d e f r : List ℕ) → a ++ b ++ c ++ d ++ e ++ f ++ r ≡ a ++ (b ++ (c ++ (d ++ (e ++ (f ++ r)))))
six a b c d e f r = simp append_assoc

module _ (i a p g i' a' p' g' : ℕ) (ks ls r s : List ℕ) where
  entry_told : entry_line i a p ks g ++ r ≡ entry_line i' a' p' ls g' ++ s
      → (a ≡ a') × (p ≡ p') × (ks ≡ ls) × (g ≡ g') × (r ≡ s)
  unfolding entry_line
  entry_told h =
      let h₀ =
      sym (six (tagged "entry " i) (tagged " symbol " a) (tagged " production " p) (kids_text ks) (tagged " graph " g) newline r)
      ∙ h
      ∙ six (tagged "entry " i') (tagged " symbol " a') (tagged " production " p') (kids_text ls) (tagged " graph " g') newline s in
      let h₁ = tagged_told "entry " i i' _ _ refl refl h₀ in
      let h₂ = tagged_told " symbol " a a' _ _ refl refl h₁.1 in
      let h₃ = tagged_told " production " p p' _ _ refl refl h₂.1 in
      let h₄ = kids_told ks ls _ _ (graph_ends g (newline ++ r)) (graph_ends g' (newline ++ s)) h₃.1 in
      let h₅ = tagged_told " graph " g g' _ _ refl refl h₄.1 in
      (h₂.0, h₃.0, h₄.0, h₅.0, append_cancel_left newline r s h₅.1)

three : (a b c r : List ℕ) → a ++ b ++ c ++ r ≡ a ++ (b ++ (c ++ r))
three a b c r = simp append_assoc

module _ (p p' : ℕ) (ks ls r s : List ℕ) where
  root_told : root_line p ks ++ r ≡ root_line p' ls ++ s → (p ≡ p') × (ks ≡ ls) × (r ≡ s)
  unfolding root_line
  root_told h =
      let h₀ =
      sym (three (tagged "root production " p) (kids_text ks) newline r)
      ∙ h
      ∙ three (tagged "root production " p') (kids_text ls) newline s in
      let h₁ = tagged_told "root production " p p' _ _ refl refl h₀ in
      let h₂ = kids_told ks ls _ _ (newline_ends r) (newline_ends s) h₁.1 in
      (h₁.0, h₂.0, append_cancel_left newline r s h₂.1)

-- ---- the line of the circle

word_ends : (b : Bool) (r : List ℕ) → EndsNumber (link_word b ++ r)
word_ends true r = refl
word_ends false r = refl

-- the second letter tells the words of links apart
word_told : (b c : Bool) (r s : List ℕ) → link_word b ++ r ≡ link_word c ++ s → (b ≡ c) × (r ≡ s)
word_told true true r s h = (refl, append_cancel_left (ascii " edge") r s h)
word_told true false r s h = let z : ◌≡◌ {A = ℕ} 101 112 = ap (λ (l : List ℕ). get_or l 1 0) h in absurd (omega arith)
word_told false true r s h = let z : ◌≡◌ {A = ℕ} 112 101 = ap (λ (l : List ℕ). get_or l 1 0) h in absurd (omega arith)
word_told false false r s h = (refl, append_cancel_left (ascii " pair") r s h)

-- the link that a node and its mark say, before the others
link_is : (x : ℕ) (b : Bool) (t r : List ℕ) → link_text x (mark_of b) ++ t ++ r ≡ tagged " " x ++ (link_word b ++ (t ++ r))
unfolding link_text
link_is x true t r = three (tagged " " x) (link_word true) t r
link_is x false t r = three (tagged " " x) (link_word false) t r

data Paired : List ℕ → List Bool → Type 0 where
  none : Paired [] []
  more : (x : ℕ) (b : Bool) {xs : List ℕ} {bs : List Bool} → Paired xs bs → Paired (x ∷ xs) (b ∷ bs)

paired : (xs : List ℕ) (bs : List Bool) → length bs ≡ length xs → Paired xs bs
paired [] [] h = none
paired [] (b ∷ bs) h = absurd (omega arith)
paired (x ∷ xs) [] h = absurd (omega arith)
paired (x ∷ xs) (b ∷ bs) h = more x b (paired xs bs (omega arith))

abbrev links : List ℕ → List Bool → List ℕ
links xs bs = links_text xs (map mark_of bs) ++ newline

-- a link is not the end of the line
not_ended : (x : ℕ) (b : Bool) (t : List ℕ) → ¬ (newline ≡ link_text x (mark_of b) ++ t ++ newline)
not_ended x b t h = (newline_ends []).none x _ (h ∙ link_is x b t newline)

links_told : {xs ys : List ℕ} {bs cs : List Bool} → Paired xs bs → Paired ys cs → links xs bs ≡ links ys cs → (xs ≡ ys) × (bs ≡ cs)
unfolding links_text
links_told none none h = (refl, refl)
links_told none (more y c q) h = absurd (not_ended y c _ h)
links_told (more x b p) none h = absurd (not_ended x b _ (sym h))
links_told (more x b p) (more y c q) h =
    let h₁ = tagged_told " " x y _ _ (word_ends b _) (word_ends c _) (sym (link_is x b _ newline) ∙ h ∙ link_is y c _ newline) in
    let h₂ = word_told b c _ _ h₁.1 in
    let h₃ = links_told p q h₂.1 in
    (λ j. h₁.0 j ∷ h₃.0 j, λ j. h₂.0 j ∷ h₃.1 j)

front : (xs : List ℕ) (k : ℕ) → length xs ≡ k → take k (filled_up most_nodes xs) ≡ xs
front xs k e = take_at xs (replicate (most_nodes - length xs) 0) k e

-- what is printed of a circle is what counts of it
counts_of : {t : Trail} (z : BeyondZero t) → circle_line t ≡ ascii "circle" ++ links z.nodes z.edges
unfolding circle_line
counts_of z =
    let marks = front (map mark_of z.edges) (length z.nodes) (length-map z.edges mark_of ∙ z.as_many) in
    rw (z.is, front z.nodes (length z.nodes) refl, marks)

circle_told : {t u : Trail} → BeyondZero t → BeyondZero u → circle_line t ≡ circle_line u → t ≡ u
circle_told {t} {u} z y h =
    let h₁ = append_cancel_left (ascii "circle") _ _ (sym (counts_of z) ∙ h ∙ counts_of y) in
    let h₂ = links_told (paired z.nodes z.edges z.as_many) (paired y.nodes y.edges y.as_many) h₁ in
    z.is
    ∙ (λ j. record { nodes = filled_up most_nodes (h₂.0 j); marks = filled_up most_nodes (map mark_of (h₂.1 j)); len = length (h₂.0 j) })
    ∙ sym y.is

marks_are : (w : ℕ) (masks ts : List ℕ) → map (mark_into w masks) ts ≡ map mark_of (map (edge_into w masks) ts)
marks_are w masks [] = refl
marks_are w masks (t ∷ ts) = ap (λ (ms : List ℕ). mark_into w masks t ∷ ms) (marks_are w masks ts)

-- what is handed over of a path is such a trail
pub trail_beyond_zero : (w : ℕ) (masks c : List ℕ) (y : ℕ) → BeyondZero (trail_of w masks c y)
unfolding trail_of
trail_beyond_zero w masks c y =
    record {
      nodes = c;
      edges = map (edge_into w masks) (targets_of c y);
      as_many =
          length-map (targets_of c y) (edge_into w masks) ∙ sym (length-map (targets_of c y) (mark_into w masks)) ∙ length_marks w masks c y;
      is = rw (marks_are w masks (targets_of c y));
    }

-- and so is the circle of every outcome of a table
pub said_zero : (w : ℕ) (g : Grammar) (es : List Entry) (root : List ℕ) (a : Answer) → CircleZero (circle_said w g es root a) a
said_zero w g es root Noncircular = refl
said_zero w g es root (Circular p) = trail_beyond_zero w _ _ _
said_zero w g es root (Refused b) = refl
said_zero w g es root OutOfSteps = refl
said_zero w g es root OutOfRoom = refl

-- ---- the lines of the entries

-- a text before which the entries end: their lines begin with an `e`
abbrev EndsEntries : List ℕ → Type 0
EndsEntries r = ¬ (get_or r 0 0 ≡ 101)

-- every entry has its other slots 0
abbrev Slotted : (ℕ → ℕ) → List Entry → Type 0
Slotted n es = (k : ℕ) → k < length es → OthersZero (n (entry es k).production) (entry es k).kids

starts : (n : ℕ → ℕ) (i : ℕ) (e : Entry) (es : List Entry) (r : List ℕ) → get_or (entry_lines n i (e ∷ es) ++ r) 0 0 ≡ 101
unfolding entry_lines entry_line
starts n i e es r = refl

slots_told : (n n' : ℕ) (ks ls : List ℕ) → OthersZero n ks → OthersZero n' ls → take n ks ≡ take n' ls → ks ≡ ls
slots_told n n' ks ls h k e = h ∙ ap seven e ∙ sym k

module _ (n n' : ℕ → ℕ) where
  one_told : (i : ℕ) (e e' : Entry) (es es' : List Entry) (r s : List ℕ)
      → OthersZero (n e.production) e.kids → OthersZero (n' e'.production) e'.kids
      → entry_lines n i (e ∷ es) ++ r ≡ entry_lines n' i (e' ∷ es') ++ s
      → (e ≡ e') × (entry_lines n (suc i) es ++ r ≡ entry_lines n' (suc i) es' ++ s)
  unfolding entry_lines
  one_told i e e' es es' r s z z' h =
      let ks = take (n e.production) e.kids in
      let ls = take (n' e'.production) e'.kids in
      let h₀ =
      sym (append_assoc (entry_line i e.symbol e.production ks e.graph) (entry_lines n (suc i) es) r)
      ∙ h
      ∙ append_assoc (entry_line i e'.symbol e'.production ls e'.graph) (entry_lines n' (suc i) es') s in
      let h₁ = entry_told i e.symbol e.production e.graph i e'.symbol e'.production e'.graph ks ls _ _ h₀ in
      let slots = slots_told (n e.production) (n' e'.production) e.kids e'.kids z z' h₁.2 in
      (λ j. record { symbol = h₁.0 j; graph = h₁.3 j; production = h₁.1 j; kids = slots j }, h₁.4)

  entries_told : (i : ℕ) (es es' : List Entry) (r s : List ℕ) → Slotted n es → Slotted n' es' → EndsEntries r → EndsEntries s
      → entry_lines n i es ++ r ≡ entry_lines n' i es' ++ s → (es ≡ es') × (r ≡ s)
  unfolding entry_lines
  entries_told i [] [] r s z z' er es h = (refl, h)
  entries_told i [] (e ∷ x) r s z z' er es h = absurd (er (ap (λ (l : List ℕ). get_or l 0 0) h ∙ starts n' i e x s))
  entries_told i (e ∷ x) [] r s z z' er es h = absurd (es (ap (λ (l : List ℕ). get_or l 0 0) (sym h) ∙ starts n i e x r))
  entries_told i (e ∷ x) (e' ∷ y) r s z z' er es h =
      let h₁ = one_told i e e' x y r s (z 0 (omega arith)) (z' 0 (omega arith)) h in
      let h₂ = entries_told (suc i) x y r s (λ k l. z (suc k) (omega arith)) (λ k l. z' (suc k) (omega arith)) er es h₁.1 in
      (λ j. h₁.0 j ∷ h₂.0 j, h₂.1)

-- ---- the answer's word

data Word : Type 0 where
  noncircular circular refused steps room : Word

-- the answers that have the word
data Says : Word → Answer → Type 0 where
  noncircular : Says Word.noncircular Noncircular
  circular : (p : ℕ) → Says Word.circular (Circular p)
  refused : (b : Broken) → Says Word.refused (Refused b)
  steps : Says Word.steps OutOfSteps
  room : Says Word.room OutOfRoom

word_of : Answer → Word
word_of Noncircular = Word.noncircular
word_of (Circular p) = Word.circular
word_of (Refused k) = Word.refused
word_of OutOfSteps = Word.steps
word_of OutOfRoom = Word.room

says : (a : Answer) → Says (word_of a) a
unfolding word_of
says Noncircular = noncircular
says (Circular p) = circular p
says (Refused k) = refused k
says OutOfSteps = steps
says OutOfRoom = room

-- the first letter tells the words apart, and the eighth of `out-of-steps` and `out-of-room`
word_in : List ℕ → Word
word_in t =
    cond (eqb (get_or t 0 0) 110) Word.noncircular
    (cond (eqb (get_or t 0 0) 99) Word.circular
    (cond (eqb (get_or t 0 0) 114) Word.refused (cond (eqb (get_or t 7 0) 115) Word.steps Word.room)))

word_in_lem : (a : Answer) (numbers r : List ℕ) → word_in (answered a numbers ++ r) ≡ word_of a
unfolding word_in word_of
word_in_lem Noncircular numbers r = refl
word_in_lem (Circular p) numbers r = refl
word_in_lem (Refused k) numbers r = refl
word_in_lem OutOfSteps numbers r = refl
word_in_lem OutOfRoom numbers r = refl

-- ---- the whole

abbrev numbers : Outcome → List ℕ
numbers o = counts o.report.closures o.report.entries o.report.passes

abbrev lines : (ℕ → ℕ) → Outcome → List ℕ
lines n o = entry_lines n 0 o.entries

abbrev root : (ℕ → ℕ) → Outcome → ℕ → List ℕ
root n o p = root_lines n o.report p

root_ends : (n : ℕ → ℕ) (o : Outcome) (p : ℕ) → EndsEntries (root n o p)
unfolding root_line
root_ends n o p h = omega arith

module _ (n n' : ℕ → ℕ) (o o' : Outcome) (z : Slotted n o.entries) (z' : Slotted n' o'.entries) where
  -- all but the answer, the root and the circle
  record Same : Type 0 where
    closures : o.report.closures ≡ o'.report.closures
    count : o.report.entries ≡ o'.report.entries
    passes : o.report.passes ≡ o'.report.passes
    entries : o.entries ≡ o'.entries

  -- the numbers and the entries behind the answer's word t, before the texts r and s
  body_told : (t r s : List ℕ) → EndsEntries r → EndsEntries s → t ++ numbers o ++ (lines n o ++ r) ≡ t ++ numbers o' ++ (lines n' o' ++ s) → Same × (r ≡ s)
  body_told t r s er es h =
      let h₀ =
      append_cancel_left t (numbers o ++ (lines n o ++ r)) (numbers o' ++ (lines n' o' ++ s))
      (sym (append_assoc t (numbers o) (lines n o ++ r)) ∙ h ∙ append_assoc t (numbers o') (lines n' o' ++ s)) in
      let h₁ =
      counts_told o.report.closures o.report.entries o.report.passes o'.report.closures o'.report.entries
      o'.report.passes (lines n o ++ r) (lines n' o' ++ s) h₀ in
      let h₂ = entries_told n n' 0 o.entries o'.entries r s z z' er es h₁.3 in
      (record { closures = h₁.0; count = h₁.1; passes = h₁.2; entries = h₂.0 }, h₂.1)

  -- where no line follows
  plain_told : (t : List ℕ) → t ++ numbers o ++ lines n o ≡ t ++ numbers o' ++ lines n' o' → Same
  plain_told t h =
      (body_told t [] [] (λ k. omega arith) (λ k. omega arith)
      (ap (λ (l : List ℕ). t ++ numbers o ++ l) (append-nil (lines n o))
      ∙ h
      ∙ ap (λ (l : List ℕ). t ++ numbers o' ++ l) (sym (append-nil (lines n' o'))))).0

  joined : (a b : Answer) → o.report.answer ≡ a → o'.report.answer ≡ b → a ≡ b → o.report.root ≡ o'.report.root
      → o.report.circle ≡ o'.report.circle → Same → o ≡ o'
  joined a b ea eb same roots circles s =
      let answers = ea ∙ same ∙ sym eb in
      λ j. record {
        report =
            record {
              answer = answers j;
              closures = s.closures j;
              entries = s.count j;
              passes = s.passes j;
              root = roots j;
              circle = circles j;
            };
        entries = s.entries j;
      }

  -- what is printed, were the answer a
  abbrev text_of : (ℕ → ℕ) → Outcome → Answer → List ℕ
  text_of m x a = answered a (numbers x) ++ rest a (lines m x) (root m x)

  told : (w : Word) (a b : Answer) → Says w a → Says w b → o.report.answer ≡ a → o'.report.answer ≡ b → RootZero n o a → RootZero n' o' b
      → CircleZero o.report.circle a → CircleZero o'.report.circle b → text_of n o a ≡ text_of n' o' b → o ≡ o'
  unfolding rest
  told w a b noncircular noncircular ea eb r r' t t' h =
      joined Noncircular Noncircular ea eb refl (r ∙ sym r') (t ∙ sym t') (plain_told (ascii "noncircular") h)
  told w a b (circular p) (circular q) ea eb r r' t t' h =
      let h₁ = body_told (ascii "circular") (root n o p) (root n' o' q) (root_ends n o p) (root_ends n' o' q) h in
      let h₂ = root_told p q _ _ _ _ h₁.1 in
      joined (Circular p) (Circular q) ea eb (ap Circular h₂.0) (slots_told (n p) (n' q) o.report.root o'.report.root r r' h₂.1)
      (circle_told t t' h₂.2) h₁.0
  told w a b (refused k) (refused l) ea eb r r' t t' h =
      r ∙ ap (λ (b : Broken). outcome (Refused b) no_root empty 0) (refused_told k l h) ∙ sym r'
  told w a b steps steps ea eb r r' t t' h =
      joined OutOfSteps OutOfSteps ea eb refl (r ∙ sym r') (t ∙ sym t') (plain_told (ascii "out-of-steps") h)
  told w a b room room ea eb r r' t t' h =
      joined OutOfRoom OutOfRoom ea eb refl (r ∙ sym r') (t ∙ sym t') (plain_told (ascii "out-of-room") h)

pub printed_tells : PrintedTells
unfolding printed first_line
printed_tells n n' o o' z z' h =
    let word = sym (word_in_lem o.report.answer _ _) ∙ ap word_in h ∙ word_in_lem o'.report.answer _ _ in
    told n n' o o' z.kids z'.kids (word_of o.report.answer) o.report.answer o'.report.answer (says o.report.answer)
    (rw word (says o'.report.answer)) refl refl z.root z'.root z.circle z'.circle h
