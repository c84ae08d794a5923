-- The order that is derived for edges is that of their numbers, field by field. Assumes nothing.
use mathlib.Core.Path.{◌≡◌, refl, ◌∙◌}
use Prim.Native.Nat.{ℕ}
use borrow.Author.Tests.{eq-eqb}
use lib.Dec.{eqb}
use mathlib.Core.Bool.{Bool, true, false, ◌||◌}
use Rattle.std.proofs.Common.{Option, Some, cond, Ordering, Less, Equal, Greater}
use Rattle.std.specs.Ordering.{is_lt, is_some_and, nat_cmp, partial_ordering_then}
use Rattle.numbers.specs.Lists.{both, below}
use Rattle.grammar.specs.declared.Edge.{Edge}
use Rattle.grammar.specs.Rules.{key}
use Rattle.grammar.specs.Refusal.{in_order}
use Rattle.grammar.proofs.Handing.{order_first, order_later}

abbrev by : Bool → Bool → Option Ordering
by l e = Some (cond l Less (cond e Equal Greater))

-- five fields, of which each is below, or the same, or above
fields : (l m n o p : Bool) (d e f g h : Bool)
    → is_some_and is_lt (partial_ordering_then (by l d) (partial_ordering_then (partial_ordering_then (by m e) (by n f)) (partial_ordering_then (by o g) (by p h))))
    ≡ l || both d (m || both e (n || both f (o || both g (p || both h false))))
unfolding both
fields true m n o p d e f g h = refl
fields false m n o p false e f g h = refl
fields false true n o p true e f g h = refl
fields false false n o p true false f g h = refl
fields false false true o p true true f g h = refl
fields false false false o p true true false g h = refl
fields false false false true p true true true g h = refl
fields false false false false p true true true false h = refl
fields false false false false true true true true true h = refl
fields false false false false false true true true true true = refl
fields false false false false false true true true true false = refl

-- `a < b`, as it is derived
abbrev pub less : Edge → Edge → Bool
less a b =
    is_some_and is_lt
    (partial_ordering_then (Some (nat_cmp a.production b.production))
    (partial_ordering_then
    (partial_ordering_then (Some (nat_cmp a.source.occurrence b.source.occurrence)) (Some (nat_cmp a.source.attribute b.source.attribute)))
    (partial_ordering_then (Some (nat_cmp a.target.occurrence b.target.occurrence)) (Some (nat_cmp a.target.attribute b.target.attribute)))))

pub ordered : (a b : Edge) → less a b ≡ below (key a) (key b)
unfolding below
ordered a b = fields _ _ _ _ _ _ _ _ _ _

-- what the code answers of the edge i: the first has none before it
pub first_placed : (i : ℕ) (before e : Edge) → i ≡ 0 → eqb i 0 ≡ in_order i before e
first_placed i before e h = eq-eqb i 0 h ∙ order_first i before e h

pub later_placed : (i : ℕ) (before e : Edge) → (i ≡ 0 → ⊥) → less before e ≡ in_order i before e
later_placed i before e h = ordered before e ∙ order_later i before e h
