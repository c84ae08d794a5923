-- A walk up or down, production by production. Assumes nothing.
use mathlib.Core.Path.{◌≡◌, refl, sym, ap, ap₂, subst, ◌∙◌}
use mathlib.Core.Bool.{Bool, true, false, cond}
use mathlib.Core.List.{List, ◌∷◌, reverse, Memᴰ}
use Prim.Native.Nat.{ℕ, ◌+◌, ◌-◌, ◌*◌, ◌≤◌, ◌<◌}
use native.Mathlib.Numerals.{add-one}
use native.Mathlib.Omega.{arith}
use lib.ListN.{length, get_or, drop, length-reverse, drop_of_length-le}
use lib.Seq.{drop-cons}
use Rattle.std.proofs.lemmas.List.{get_or-reverse, reverse-reverse}
use Rattle.numbers.proofs.Members.{member_at}
use Rattle.numbers.proofs.Ordered.{stands_at}
use Rattle.grammar.specs.declared.Production.{Production}
use Rattle.grammar.specs.Grammar.{no_production}
use Rattle.grammar.specs.Table.{P, at_productions, production_in, grammar_of}
use Rattle.grammar.proofs.Lookups.{production_there, productions_many}
use Rattle.parts.specs.Sets.{Symbols}
use Rattle.parts.specs.Rule.{walk}
use Rattle.walks.specs.Walk.{turned}

-- ---- the same productions in either order

in_reverse : (ps : List Production) (p : Production) → Memᴰ p ps → Memᴰ p (reverse ps)
in_reverse ps p m =
    let (i, l, e) = stands_at no_production p ps m in
    let j : length ps - 1 - (length ps - 1 - i) ≡ i = omega (arith, l) in
    subst (λ q. Memᴰ q (reverse ps))
    (get_or-reverse ps (length ps - 1 - i) no_production (omega (arith, l)) ∙ ap (λ k. get_or ps k no_production) j ∙ sym e)
    (member_at no_production (reverse ps) (length ps - 1 - i) (omega (arith, l, length-reverse ps)))

pub in_turned : (up : Bool) (ps : List Production) (p : Production) → Memᴰ p ps → Memᴰ p (turned up ps)
unfolding turned
in_turned true ps p m = m
in_turned false ps p m = in_reverse ps p m

pub of_turned : (up : Bool) (ps : List Production) (p : Production) → Memᴰ p (turned up ps) → Memᴰ p ps
unfolding turned
of_turned true ps p m = m
of_turned false ps p m = subst (Memᴰ p) (reverse-reverse ps) (in_reverse (reverse ps) p m)

turned_many : (up : Bool) (ps : List Production) → length (turned up ps) ≡ length ps
unfolding turned
turned_many true ps = refl
turned_many false ps = length-reverse ps

turned_at :
    (up : Bool) (ps : List Production) (i : ℕ) → i < length ps
    → get_or (turned up ps) i no_production ≡ get_or ps (cond up i (length ps - 1 - i)) no_production
unfolding turned
turned_at true ps i h = refl
turned_at false ps i h = get_or-reverse ps i no_production h

-- ---- the productions of a table, from i on

module _ (f : Symbols → Production → Symbols) (bs : List ℕ) (up : Bool) (i : ℕ) where
  abbrev qs : List Production
  qs = turned up (grammar_of bs).productions

  pub walk_next :
      (A B : Symbols) (n first number : ℕ) → i < n → n ≡ P bs → first ≡ at_productions bs
      → (number ≡ cond up i (n - 1 - i)) × (number < n) → B ≡ f A (production_in bs (first + 18 * number))
      → walk f (drop (i + 1) (turned up (grammar_of bs).productions)) B ≡ walk f (drop i (turned up (grammar_of bs).productions)) A
  unfolding walk
  walk_next A B n first number h many where-first (e, l) b =
      let ps = (grammar_of bs).productions in
      let all : n ≡ length ps = many ∙ sym (productions_many bs) in
      let p : get_or qs i no_production ≡ production_in bs (first + 18 * number) =
      turned_at up ps i (omega arith)
      ∙ ap (λ k. get_or ps k no_production) (ap (λ m. cond up i (m - 1 - i)) (sym all) ∙ sym e)
      ∙ production_there bs number (omega arith)
      ∙ ap (λ m. production_in bs (m + 18 * number)) (sym where-first) in
      ap (walk f (drop (i + 1) qs)) b
      ∙ sym
      (ap (λ rs. walk f rs A)
      (drop-cons qs i no_production (omega (arith, turned_many up ps)) ∙ ap₂ (λ p m. p ∷ drop m qs) p (sym (add-one i))))

  pub walk_done : (A : Symbols) (n : ℕ) → n ≡ P bs → n ≤ i → walk f (drop i (turned up (grammar_of bs).productions)) A ≡ A
  unfolding walk
  walk_done A n many h =
      let past : length qs ≤ i = omega (arith, turned_many up (grammar_of bs).productions, productions_many bs) in
      ap (λ rs. walk f rs A) (drop_of_length-le qs past)
