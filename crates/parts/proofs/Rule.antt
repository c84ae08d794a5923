-- What the rule does with the set of each walk: the two tests, and what they come to over any grammar. Assumes nothing.
use mathlib.Core.Bool.{Bool, true}
use mathlib.Core.List.Memᴰ
use mathlib.Core.List.{List, [], ◌∷◌, Memᴰ}
use mathlib.Core.Logic.{⊎_elim}
use mathlib.Core.Path.{◌≡◌, refl, subst, sym}
use Prim.Native.Nat.{ℕ, ◌<◌}
use Rattle.numbers.specs.Lists.{both, every}
use Rattle.numbers.proofs.Decides.{Decides, both_decides, every_decides}
use Rattle.grammar.specs.declared.Production.{Production}
use Rattle.grammar.specs.Grammar.{Grammar, rights}
use Rattle.parts.specs.Sets.{Symbols, none, has}
use Rattle.parts.specs.Rule.{grown, treed, begun, spread, reached}
use Rattle.parts.proofs.Sets.{In, Within, IsSet, none_set, in_none, if_set, if_here, if_only}
use Rattle.parts.proofs.Walks.{out_more, out_closed, out_holds}

-- all of ss are in the set
abbrev pub AllIn : Symbols → List ℕ → Type 0
AllIn A ss = (s : ℕ) → Memᴰ s ss → In A s

in_decides : (A : Symbols) (s : ℕ) → Decides (has A s) (In A s)
in_decides A s = record { so = λ e. e; passes = λ e. e }

pub all_decides : (A : Symbols) (ss : List ℕ) → Decides (every (has A) ss) (AllIn A ss)
all_decides A ss = every_decides (has A) (In A) (in_decides A) ss

-- the left symbol is in R, and each right symbol in T
pub both_in : (T R : Symbols) (p : Production)
    → Decides (both (has R p.left) (every (has T) (rights p))) (In R p.left × AllIn T (rights p))
both_in T R p = both_decides (in_decides R p.left) (all_decides T (rights p))

-- ---- the two walks as steps, each with a test and targets

abbrev pub grows : Symbols → Production → Bool
grows A p = every (has A) (rights p)

abbrev pub spreads : Symbols → Symbols → Production → Bool
spreads T A p = both (has A p.left) (every (has T) (rights p))

abbrev pub only_left : Production → List ℕ
only_left p = p.left ∷ []

pub grows_more : (A B : Symbols) (p : Production) → Within A B → grows A p ≡ true → grows B p ≡ true
grows_more A B p w e = (all_decides B (rights p)).passes (λ s m. w s ((all_decides A (rights p)).so e s m))

pub spreads_more : (T A B : Symbols) (p : Production) → Within A B → spreads T A p ≡ true → spreads T B p ≡ true
spreads_more T A B p w e = let h = (both_in T A p).so e in (both_in T B p).passes (w p.left h.0, h.1)

module _ (g : Grammar) where
  abbrev ps : List Production
  ps = g.productions

  -- ---- the symbols that have a finite tree

  -- what a production gives to its left symbol where its right symbols have it, each symbol there has
  pub treed_holds :
      (P : ℕ → Type 0) → ((p : Production) → Memᴰ p ps → ((s : ℕ) → Memᴰ s (rights p) → P s) → P p.left)
      → (s : ℕ) → In (treed g) s → P s
  unfolding treed grown
  treed_holds P h =
      out_holds grows only_left grows_more ps none none_set P
      (λ A p m holds e t k l.
      subst P (sym (Memᴰ.eq_of_singleton k)) (h p m (λ s o. holds s ((all_decides A (rights p)).so e s o))))
      (λ s k. absurd (in_none s k))

  pub treed_closed : (p : Production) → Memᴰ p ps → AllIn (treed g) (rights p) → p.left < 256 → In (treed g) p.left
  unfolding treed grown
  treed_closed p m h l =
      out_closed grows only_left grows_more ps none none_set p m ((all_decides _ (rights p)).passes h) p.left (Memᴰ.head refl) l

  -- ---- the symbols that are reached, where those of T have a finite tree
  module _ (T : Symbols) where
    pub begun_set : IsSet (begun T g.start)
    unfolding begun
    begun_set = if_set _ none (g.start ∷ []) none_set

    begun_only : (s : ℕ) → In (begun T g.start) s → In T g.start × (s ≡ g.start)
    unfolding begun
    begun_only s h =
        ⊎_elim
        (λ w. (w.0, Memᴰ.eq_of_singleton w.1))
        (λ k. absurd (in_none s k))
        (if_only (has T g.start) none (g.start ∷ []) none_set s h)

    -- what the start symbol has if it has a finite tree, and each production hands on to its right symbols, each symbol there has
    pub reached_holds :
        (P : ℕ → Type 0) → (In T g.start → P g.start)
        → ((p : Production) → Memᴰ p ps → P p.left → AllIn T (rights p) → (s : ℕ) → Memᴰ s (rights p) → P s)
        → (s : ℕ) → In (reached g T) s → P s
    unfolding reached spread
    reached_holds P first h =
        out_holds (spreads T) rights (spreads_more T) ps (begun T g.start) begun_set P
        (λ A p m holds e t k l. let w = (both_in T A p).so e in h p m (holds p.left w.0) w.1 t k)
        (λ s k. let b = begun_only s k in subst P (sym b.1) (first b.0))

    pub begun_reached : Within (begun T g.start) (reached g T)
    unfolding reached spread
    begun_reached = out_more (spreads T) rights (spreads_more T) ps (begun T g.start) begun_set

    pub start_reached : In T g.start → g.start < 256 → In (reached g T) g.start
    unfolding begun
    start_reached h l =
        begun_reached g.start (if_here (has T g.start) none (g.start ∷ []) none_set h g.start l (Memᴰ.head refl))

    pub reached_closed :
        (p : Production) → Memᴰ p ps → In (reached g T) p.left → AllIn T (rights p)
        → (s : ℕ) → Memᴰ s (rights p) → s < 256 → In (reached g T) s
    unfolding reached spread
    reached_closed p m r h =
        out_closed (spreads T) rights (spreads_more T) ps (begun T g.start) begun_set p m ((both_in T _ p).passes (r, h))

    -- they have a finite tree
    pub reached_treed : Within (reached g T) T
    reached_treed = reached_holds (In T) (λ h. h) (λ p m _ h. h)
