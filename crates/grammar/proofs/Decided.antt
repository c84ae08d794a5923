-- Each test of the check decides its rule. Assumes nothing.
use mathlib.Core.Path.{◌≡◌}
use mathlib.Core.List.{List, Memᴰ}
use Prim.Native.Nat.{ℕ, zero, suc, ◌<◌, ◌^◌}
use lib.Dec.{eqb, ltb}
use lib.ListN.{length, drop}
use Rattle.numbers.specs.Number.{bit, le4}
use Rattle.numbers.specs.Lists.{every}
use Rattle.numbers.proofs.Decides.{Decides, le_decides, lt_decides, eq_decides, both_decides, every_decides, says}
use Rattle.grammar.specs.declared.Symbol.{Symbol}
use Rattle.grammar.specs.declared.Production.{Production}
use Rattle.grammar.specs.declared.Edge.{Edge}
use Rattle.grammar.specs.Grammar.{Grammar, rights}
use Rattle.grammar.specs.Table.{N, P, E, start_of, at_symbols, at_productions, at_edges, total}
use Rattle.grammar.specs.Rules.{CountsInRange, OffsetsRight, GoodSymbol, GoodProduction, producer, symbol_of, ProductionThere, OccurrencesThere, AttributesThere, Allowed, TargetAllowed, GoodEdge}
use Rattle.grammar.specs.Refusal.{counts_ok, offsets_ok, symbol_ok, production_ok, allowed, occurrences_ok, attributes_ok, target_ok}

module _ (bs : List ℕ) where
  pub counts_decide : Decides (counts_ok bs) (CountsInRange bs)
  unfolding counts_ok
  counts_decide =
      says
      (λ h. record { some_symbol = h.0; symbols = h.1.0; productions = h.1.1.0; edges = h.1.1.1.0; start = h.1.1.1.1 })
      (λ r. (r.some_symbol, (r.symbols, (r.productions, (r.edges, r.start)))))
      (both_decides
      (le_decides 1 (N bs))
      (both_decides
      (le_decides (N bs) 256)
      (both_decides
      (le_decides (P bs) 512)
      (both_decides (le_decides (E bs) 8192) (lt_decides (start_of bs) (N bs))))))

  pub offsets_decide : Decides (offsets_ok bs) (OffsetsRight bs)
  unfolding offsets_ok
  offsets_decide =
      says
      (λ h. record { symbols = h.0; productions = h.1.0; edges = h.1.1.0; whole = h.1.1.1.0; given = h.1.1.1.1 })
      (λ r. (r.symbols, (r.productions, (r.edges, (r.whole, r.given)))))
      (both_decides
      (eq_decides (le4 bs 8) at_symbols)
      (both_decides
      (eq_decides (le4 bs 12) (at_productions bs))
      (both_decides
      (eq_decides (le4 bs 16) (at_edges bs))
      (both_decides (eq_decides (le4 bs 20) (total bs)) (eq_decides (total bs) (length bs))))))

pub symbol_decides : (w : ℕ) (s : Symbol) → Decides (symbol_ok w s) (GoodSymbol w s)
unfolding symbol_ok
symbol_decides w s =
    says
    (λ h. record { count = h.0; mask = h.1 })
    (λ r. (r.count, r.mask))
    (both_decides (le_decides s.count w) (lt_decides s.mask (2 ^ s.count)))

pub rights_decide :
    (n : ℕ) (l : List ℕ) → Decides (every (λ s. ltb s n) l) ((s : ℕ) → Memᴰ s l → s < n)
rights_decide n = every_decides (λ s. ltb s n) (λ s. s < n) (λ s. lt_decides s n)

pub spare_decide : (l : List ℕ) → Decides (every (λ s. eqb s 0) l) ((s : ℕ) → Memᴰ s l → s ≡ 0)
spare_decide = every_decides (λ s. eqb s 0) (λ s. s ≡ 0) (λ s. eq_decides s 0)

pub production_decides : (n : ℕ) (p : Production) → Decides (production_ok n p) (GoodProduction n p)
unfolding production_ok
production_decides n p =
    says
    (λ h. record { left = h.0; few = h.1.0; right = h.1.1.0; spare = h.1.1.1 })
    (λ r. (r.left, (r.few, (r.right, r.spare))))
    (both_decides
    (lt_decides p.left n)
    (both_decides
    (le_decides p.n 7)
    (both_decides
    (rights_decide n (rights p))
    (spare_decide (drop p.n p.slots)))))

pub target_decides : (o i : ℕ) → Decides (allowed o i) (Allowed o i)
unfolding allowed
target_decides zero i = eq_decides i 0
target_decides (suc o) i = eq_decides i 1

module _ (g : Grammar) (e : Edge) where
  pub there_decides : Decides (ltb e.production (length g.productions)) (ProductionThere g e)
  there_decides = lt_decides e.production (length g.productions)

  pub occurrences_decide : Decides (occurrences_ok g e) (OccurrencesThere g e)
  unfolding occurrences_ok
  occurrences_decide =
      both_decides (le_decides e.source.occurrence (producer g e).n) (le_decides e.target.occurrence (producer g e).n)

  pub attributes_decide : Decides (attributes_ok g e) (AttributesThere g e)
  unfolding attributes_ok
  attributes_decide =
      both_decides (lt_decides e.source.attribute (symbol_of g e e.source).count)
      (lt_decides e.target.attribute (symbol_of g e e.target).count)

  pub allowed_decides : Decides (target_ok g e) (TargetAllowed g e)
  unfolding target_ok
  allowed_decides = target_decides e.target.occurrence (bit e.target.attribute (symbol_of g e e.target).mask)

  -- the four together
  pub good_edge : ProductionThere g e → OccurrencesThere g e → AttributesThere g e → TargetAllowed g e → GoodEdge g e
  good_edge p o a t =
      record {
        production_there = p;
        source = record { occurrence = o.0; attribute = a.0 };
        target = record { occurrence = o.1; attribute = a.1 };
        allowed = t;
      }

  pub occurrences : GoodEdge g e → OccurrencesThere g e
  occurrences h = (h.source.occurrence, h.target.occurrence)

  pub attributes_there : GoodEdge g e → AttributesThere g e
  attributes_there h = (h.source.attribute, h.target.attribute)
