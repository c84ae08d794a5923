-- An edge that was read, or the rule that it breaks. Assumes nothing.
use mathlib.Core.Path.{◌≡◌, refl, sym, ap, ◌∙◌}
use mathlib.Core.Bool.{Bool, true, false}
use mathlib.Core.List.{List}
use Prim.Native.Nat.{ℕ, zero, suc, ◌-◌, ◌<◌}
use native.Mathlib.Omega.{arith}
use lib.Dec.{ltb}
use lib.ListN.{length}
use Rattle.numbers.specs.Lists.{below}
use Rattle.std.specs.Prelude.{Result, Ok, Err}
use Rattle.grammar.specs.declared.Rule.{Rule}
use Rattle.grammar.specs.declared.Rule.TheVariants.{NotAbove, NoSuchProduction, NoOccurrence, NoAttribute, NotAllowed}
use Rattle.grammar.specs.declared.Edge.{Edge}
use Rattle.grammar.specs.Grammar.{Grammar}
use Rattle.grammar.specs.Table.{E, grammar_of}
use Rattle.grammar.specs.Rules.{key, edge}
use Rattle.grammar.specs.Refusal.{occurrences_ok, attributes_ok, target_ok, in_order, or_rule, edge_read}
use Rattle.grammar.specs.Reading.{edge_at}
use Rattle.grammar.proofs.Lookups.{edge_there}

pub order_first : (i : ℕ) (before e : Edge) → i ≡ 0 → true ≡ in_order i before e
unfolding in_order
order_first zero before e h = refl
order_first (suc i) before e h = absurd (omega arith)

pub order_later : (i : ℕ) (before e : Edge) → (i ≡ 0 → ⊥) → below (key before) (key e) ≡ in_order i before e
unfolding in_order
order_later zero before e h = absurd (h refl)
order_later (suc i) before e h = refl

-- an edge by the tests that it passes, in their order
module _ (g : Grammar) (i : ℕ) (before e : Edge) where
  abbrev There : Bool → Type 0
  There b = ltb e.production (length g.productions) ≡ b

  pub read_ten : There false → edge_read g i before e ≡ Err NoSuchProduction
  unfolding edge_read or_rule
  read_ten p = rw p

  pub read_eleven : There true → occurrences_ok g e ≡ false → edge_read g i before e ≡ Err NoOccurrence
  unfolding edge_read or_rule
  read_eleven p q = rw (p, q)

  pub read_twelve : There true → occurrences_ok g e ≡ true → attributes_ok g e ≡ false → edge_read g i before e ≡ Err NoAttribute
  unfolding edge_read or_rule
  read_twelve p q r = rw (p, q, r)

  pub read_thirteen :
      There true → occurrences_ok g e ≡ true → attributes_ok g e ≡ true → target_ok g e ≡ false → edge_read g i before e ≡ Err NotAllowed
  unfolding edge_read or_rule
  read_thirteen p q r s = rw (p, q, r, s)

  pub read_seven :
      There true → occurrences_ok g e ≡ true → attributes_ok g e ≡ true → target_ok g e ≡ true → in_order i before e ≡ false
      → edge_read g i before e ≡ Err NotAbove
  unfolding edge_read or_rule
  read_seven p q r s t = rw (p, q, r, s, t)

  pub read_whole :
      There true → occurrences_ok g e ≡ true → attributes_ok g e ≡ true → target_ok g e ≡ true → in_order i before e ≡ true
      → edge_read g i before e ≡ Ok e
  unfolding edge_read or_rule
  read_whole p q r s t = rw (p, q, r, s, t)

kept : {A : Type 0} (b : Bool) (k : Rule) (rest : Result A Rule) (x : A) → or_rule b k rest ≡ Ok x → rest ≡ Ok x
unfolding or_rule
kept true k rest x e = e
kept false k rest x e = cc

-- what is read of an edge that breaks no rule is the edge itself
pub edge_kept : (g : Grammar) (i : ℕ) (before e x : Edge) → edge_read g i before e ≡ Ok x → x ≡ e
unfolding edge_read
edge_kept g i before e x h =
    let q = kept _ NotAbove (Ok e) x (kept _ NotAllowed _ x (kept _ NoAttribute _ x (kept _ NoOccurrence _ x (kept _ NoSuchProduction _ x h)))) in
    cc

-- the edge that is read at i, after the edge before it; any stands before the first
pub reads_edge : (bs : List ℕ) (before : Edge) (i : ℕ) → i < E bs → (0 < i → before ≡ edge (grammar_of bs) (i - 1))
    → edge_read (grammar_of bs) i before (edge_at bs i) ≡ edge_read (grammar_of bs) i (edge (grammar_of bs) (i - 1)) (edge (grammar_of bs) i)
unfolding edge_read in_order
reads_edge bs before i l e = ap (edge_read (grammar_of bs) i before) (sym (edge_there bs i l)) ∙ go i e
  where
    go : (i : ℕ) → (0 < i → before ≡ edge (grammar_of bs) (i - 1))
        → edge_read (grammar_of bs) i before (edge (grammar_of bs) i)
        ≡ edge_read (grammar_of bs) i (edge (grammar_of bs) (i - 1)) (edge (grammar_of bs) i)
    go zero e = refl
    go (suc i) e = ap (λ (b : Edge). edge_read (grammar_of bs) (suc i) b (edge (grammar_of bs) (suc i))) (e (omega arith))
