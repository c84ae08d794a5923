-- K1 to K10, and what else the rules print of their small grammars, from the tables' bytes. Assumes nothing.
use mathlib.Core.Path.{◌≡◌, refl, sym}
use mathlib.Core.Bool.{Bool, true, false, cond}
use mathlib.Core.List.{List, [], ◌∷◌}
use Prim.Native.Nat.{ℕ}
use lib.Dec.{eqb}
use lib.ListN.{set, replicate}
use borrow.Author.Tests.{eqb-true}
use Rattle.grammar.specs.declared.Broken.TheVariants.{Rule}
use Rattle.rules.specs.declared.Answer.{Answer}
use Rattle.rules.specs.declared.Answer.TheVariants.{Noncircular, Circular, Refused, OutOfSteps, OutOfRoom}
use Rattle.rules.specs.declared.Entry.{Entry}
use Rattle.rules.specs.Passes.{numbered, number_of, Outcome}
use Rattle.rules.specs.Test.{test}
use Rattle.rules.specs.Opened.{opened}
use Rattle.rules.specs.Small.{table_a, table_b, table_c, table_d, table_r, table_q, table_spare, table_endless, table_barren}

-- a line of the table: the answer, the closures, the entries, the passes
abbrev pub Line : Type 0
Line = Answer × ℕ × ℕ × ℕ

abbrev pub line_of : Outcome → Line
line_of o =
    let r = o.report in
    (r.answer, r.closures, r.entries, r.passes)

abbrev line : List ℕ → ℕ → ℕ → Line
line bs limit room = line_of (test bs limit room)

pub K :
    ◌≡◌ {A = List Line}
    (line table_a 10 3
    ∷ line table_a 9 3
    ∷ line table_a 10 2
    ∷ line table_a 0 0
    ∷ line table_b 3 2
    ∷ line table_b 2 2
    ∷ line table_b 3 1
    ∷ line table_b 1 1
    ∷ line table_c 0 0
    ∷ line table_d 0 0
    ∷ [])
    ((Noncircular, 10, 3, 3)
    ∷ (numbered 8, 9, 3, 3)
    ∷ (numbered 9, 3, 2, 2)
    ∷ (numbered 8, 0, 0, 1)
    ∷ (Circular 0, 3, 2, 2)
    ∷ (numbered 8, 2, 2, 2)
    ∷ (numbered 9, 2, 1, 1)
    ∷ (numbered 8, 1, 1, 1)
    ∷ (Noncircular, 0, 0, 1)
    ∷ (Noncircular, 0, 0, 1)
    ∷ [])
unfolding opened table_a table_b table_c table_d
K = refl

-- the case of a number has that number
pub number_numbered : (k : ℕ) → number_of (numbered k) ≡ k
unfolding numbered
number_numbered k = go (eqb k 8) refl (eqb k 9) refl
  where
    go : (a : Bool) → eqb k 8 ≡ a → (b : Bool) → eqb k 9 ≡ b → number_of (cond a OutOfSteps (cond b OutOfRoom (Refused (Rule k)))) ≡ k
    go true e b f = sym (eqb-true k 8 e)
    go false e true f = sym (eqb-true k 9 f)
    go false e false f = refl

abbrev made : ℕ → ℕ → ℕ → List ℕ → Entry
made s g p kids = record { symbol = s; graph = g; production = p; kids = kids }

-- the entries of A
pub entries_a_lem :
    (test table_a 10 3).entries
    ≡ made 1 4 1 (replicate 7 0) ∷ made 1 2048 2 (replicate 7 0) ∷ made 0 0 0 (replicate 7 0) ∷ []
unfolding opened table_a
entries_a_lem = refl

-- all that comes back for B, as `circ` runs it
pub whole_b :
    test table_b 1000000 1024
    ≡ record {
      report =
          record {
            answer = Circular 0;
            closures = 3;
            entries = 2;
            passes = 2;
            root = replicate 7 0;
            circle =
                record {
                  nodes = 8 ∷ 10 ∷ 9 ∷ 11 ∷ replicate 60 0;
                  marks = 0 ∷ 1 ∷ 0 ∷ 1 ∷ replicate 60 0;
                  len = 4;
                };
          };
      entries = made 1 2052 1 (replicate 7 0) ∷ made 1 2048 2 (replicate 7 0) ∷ [];
    }
unfolding opened table_b
whole_b = refl

-- entries stored during a turn wait for the next turn: were they to join it, there would be 6 closures
pub waits : line table_r 100 10 ≡ (Noncircular, 5, 2, 2)
unfolding opened table_r
waits = refl

-- the last right symbol changes fastest, in ascending order
pub fastest :
    (test table_q 100 10).entries
    ≡ made 1 0 0 (replicate 7 0)
    ∷ made 1 2 1 (replicate 7 0)
    ∷ made 0 0 2 (0 ∷ 0 ∷ replicate 5 0)
    ∷ made 0 4 2 (0 ∷ 1 ∷ replicate 5 0)
    ∷ made 0 2 2 (1 ∷ 0 ∷ replicate 5 0)
    ∷ made 0 6 2 (1 ∷ 1 ∷ replicate 5 0)
    ∷ []
unfolding opened table_q
fastest = refl

-- what does not take part is not tried: a circular symbol that the start symbol does not reach; a production with a circle in its own edges,
-- and with a right symbol that has no finite tree; a start symbol that has none, beside a circular symbol that has one
pub skips :
    ◌≡◌ {A = List Line}
    (line table_spare 100 10 ∷ line table_endless 100 10 ∷ line table_barren 100 10 ∷ line table_barren 0 0 ∷ [])
    ((Noncircular, 2, 1, 2) ∷ (Noncircular, 2, 1, 2) ∷ (Noncircular, 0, 0, 1) ∷ (Noncircular, 0, 0, 1) ∷ [])
unfolding opened table_spare table_endless table_barren
skips = refl

-- a circle in a production's own edges is found with its first combination and not before: 0 → 1 with 1.0 → 1.0, 1 → nothing, 0 → nothing
pub not_before : line (set (set table_endless 48 0) 50 0) 100 10 ≡ (Circular 0, 3, 2, 2)
unfolding opened table_endless
not_before = refl
