-- Texts placed one after the other, and the text of the entries, line by line. Assumes nothing.
use mathlib.Core.Path.{◌≡◌, refl, ◌∙◌, subst}
use mathlib.Core.Bool.{Bool, true, false}
use mathlib.Core.List.{List, [], ◌∷◌, ◌++◌, append-nil, append_assoc}
use Prim.Native.Nat.{ℕ, suc, ◌+◌, ◌≤◌}
use native.Mathlib.Nat.{add-zero, zero-add}
use native.Mathlib.Numerals.{add-one}
use native.Mathlib.Omega.{arith}
use lib.ListN.{length, length-append, length-drop, take-append-drop}
use lib.Seq.{length-take-le}
use Rattle.numbers.proofs.Decides.{both_decides, le_decides}
use Rattle.rules.specs.declared.Report.{Report}
use Rattle.rules.specs.declared.Entry.{Entry}
use Rattle.texts.specs.Lines.{entry_lines}
use Rattle.lines.specs.Buffer.{Written}
use Rattle.lines.proofs.Putting.{fitting, fitted, lines}
use Rattle.passes.specs.Slices.{Slices, room_of, entry_at, entries_to}
use Rattle.passes.proofs.Entries.{length_entries}
use Rattle.print.specs.declared.Page.{Page}
use Rattle.print.specs.Texts.{entry_text, bytes_for, enough, Placed, Printed}

pub nothing : (p : Page) → p.at ≤ length p.buf.now → Placed [] 0 p p
nothing p h =
    record {
      written = fitting [] p.at p.buf.now (omega arith) (rw (add-zero, append-nil, take-append-drop)) (omega arith);
      short = omega arith;
      lent = refl;
    }

module _ {p q : Page} where
  -- the same text, and a bound that is no less
  pub within : {l k : List ℕ} {m n : ℕ} → l ≡ k → m ≤ n → Placed l m p q → Placed k n p q
  within e h f =
      record {
        written = subst (λ (t : List ℕ). Written t p.at p.buf.now q.buf.now q.at) e f.written;
        short = rw (← e) (omega (arith, f.short));
        lent = f.lent;
      }

  pub then : {l k : List ℕ} {m n : ℕ} {mid : Page} → p.at + (m + n) ≤ length p.buf.now → Placed l m p mid → Placed k n mid q
      → Placed (l ++ k) (m + n) p q
  then {l} {k} {m} {n} h f g =
      let both : length (l ++ k) ≤ m + n = rw length-append (omega (arith, f.short, g.short)) in
      record { written = lines l k p.at p.buf.now (omega arith) f.written g.written; short = both; lent = g.lent ∙ f.lent }

  -- where a text that fits was placed, the buffer is as long as before, and the next place is right behind the text
  pub placed_length : {text : List ℕ} {m : ℕ} → p.at + m ≤ length p.buf.now → Placed text m p q
      → (length q.buf.now ≡ length p.buf.now) × (q.at ≤ p.at + m)
  placed_length {text} {m} h f =
      let s = f.short in
      let g = fitted text p.at p.buf.now (omega arith) f.written in
      let e = g.1 in
      (rw (g.0, length-append, length-append, length-take-le p.at p.buf.now (omega arith), length-drop) (omega arith), omega arith)

-- ---- the whole text

pub roomy : (report : Report) (σ : Slices) (old : List ℕ) → enough report σ old ≡ true
    → (report.entries ≤ room_of σ) × (bytes_for report.entries ≤ length old)
roomy report σ old h = (both_decides (le_decides _ _) (le_decides _ _)).so h

pub not_printed : {text old : List ℕ} {ok : Bool} → ok ≡ false → Printed text ok old old 0
not_printed e = rw e (record { buffer = refl; count = refl })

-- the buffer ends as the page leaves it
pub is_printed : {text new : List ℕ} {most : ℕ} {p q : Page} {ok : Bool} → ok ≡ true → p.at ≡ 0 → most ≤ length p.buf.now → Placed text most p q
    → new ≡ q.buf.now → Printed text ok p.buf.now new q.at
is_printed {text} {new} {most} {p} {q} e start h f kept =
    let s = f.short in
    let w : Written text 0 p.buf.now q.buf.now q.at = rw start at f.written in
    let g = fitted text 0 p.buf.now (omega arith) w in
    rw (e, kept) (record { buffer = g.0 ∙ rw zero-add; count = omega arith })

-- ---- the entries

lines_append : (n : ℕ → ℕ) (i : ℕ) (es fs : List Entry) → entry_lines n i (es ++ fs) ≡ entry_lines n i es ++ entry_lines n (i + length es) fs
unfolding entry_lines
lines_append n i [] fs = rw add-zero
lines_append n i (e ∷ es) fs =
    let step : suc i + length es ≡ i + suc (length es) = omega arith in
    rw (lines_append n (suc i) es fs, step, append_assoc)

pub one_more : (n : ℕ → ℕ) (σ : Slices) (i : ℕ)
    → entry_lines n 0 (entries_to σ i) ++ entry_text n i (entry_at σ i) ≡ entry_lines n 0 (entries_to σ (i + 1))
unfolding entry_lines entries_to
one_more n σ i =
    let count : 0 + length (entries_to σ i) ≡ i = rw (length_entries σ i) (omega arith) in
    rw (add-one, lines_append n 0 (entries_to σ i) (entry_at σ i ∷ []), count, append-nil)
