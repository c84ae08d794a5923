-- A table that is not refused obeys every rule, and its runs are unbroken. Assumes nothing.
use mathlib.Core.Path.{◌≡◌, sym, ap, subst}
use mathlib.Core.List.{List, Memᴰ}
use mathlib.Core.Logic.{⊎_elim}
use Prim.Native.Nat.{ℕ, zero, suc, ◌≤◌, ◌<◌}
use native.Mathlib.Nat.{not-suc-le-zero, le_of_suc-le-suc, eq-or-lt_of_le}
use native.Mathlib.Omega.{arith}
use Rattle.numbers.specs.Lists.{Below}
use Rattle.numbers.proofs.Ordered.{below_trans, below_first, stands_at}
use Rattle.grammar.specs.declared.Edge.{Edge}
use Rattle.std.specs.Prelude.{Ok}
use Rattle.grammar.specs.Grammar.{no_symbol, no_production}
use Rattle.grammar.specs.Table.{N, E, width_of, edge_in, grammar_of}
use Rattle.grammar.specs.Rules.{GoodSymbol, GoodProduction, GoodEdge, AllGood, EdgeGood, BeforeEdges, edge, key, no_edge}
use Rattle.grammar.specs.Search.{producing}
use Rattle.grammar.specs.Refusal.{Checked, refusal}
use Rattle.grammar.specs.Valid.{Valid, TakenIsValid}
use Rattle.grammar.proofs.Lookups.{edge_there, symbols_many, edges_many, productions_many}
use Rattle.grammar.proofs.Refused.{Ending, taken, refused, ending}
use Rattle.grammar.proofs.Runs.{run_is_all}

module _ (bs : List ℕ) where
  not_refused : (c : Checked) → Ending bs c → c ≡ Ok tt → BeforeEdges bs × AllGood (EdgeGood (grammar_of bs)) (E bs)
  not_refused c (taken b all) e = (b, all)
  not_refused c (refused b) e = let z : ◌≡◌ {A = ℕ} 0 1 = cc in absurd (omega arith)

  module _ (before : BeforeEdges bs) (all : AllGood (EdgeGood (grammar_of bs)) (E bs)) where
    good : (e : Edge) → Memᴰ e (grammar_of bs).edges → GoodEdge (grammar_of bs) e
    good e m =
        let r = stands_at no_edge e (grammar_of bs).edges m in
        subst (GoodEdge (grammar_of bs)) (sym r.2) (all r.0 (omega (arith, r.1, edges_many bs))).0

    ascending : (i j : ℕ) → i < j → j < E bs → Below (key (edge (grammar_of bs) i)) (key (edge (grammar_of bs) j))
    ascending i zero h u = absurd (not-suc-le-zero h)
    ascending i (suc j) h u =
        ⊎_elim
        (λ e. subst (λ i. Below (key (edge (grammar_of bs) i)) (key (edge (grammar_of bs) (suc j)))) (sym e) (all (suc j) u).1)
        (λ l.
        below_trans
        (key (edge (grammar_of bs) i))
        (key (edge (grammar_of bs) j))
        (key (edge (grammar_of bs) (suc j)))
        (ascending i j l (omega arith))
        (all (suc j) u).1)
        (eq-or-lt_of_le (le_of_suc-le-suc h))

    produced : (i : ℕ) → i < E bs → (edge (grammar_of bs) i).production ≡ producing bs i
    unfolding edge_in
    produced i h = ap (λ e. e.production) (edge_there bs i h)

    sorted : (i j : ℕ) → i ≤ j → j < E bs → producing bs i ≤ producing bs j
    sorted i j l u =
        ⊎_elim
        (λ e. subst (λ k. producing bs i ≤ producing bs k) e (omega arith))
        (λ h.
        omega
        (arith, below_first (key (edge (grammar_of bs) i)) (key (edge (grammar_of bs) j)) (ascending i j h u), produced i (omega arith), produced j u))
        (eq-or-lt_of_le l)

    is_valid : Valid bs
    is_valid =
        record {
          header = before.0.0;
          counts = before.0.1;
          offsets = before.0.2;
          symbols = λ s m.
              let r = stands_at no_symbol s (grammar_of bs).symbols m in
              subst (GoodSymbol (width_of bs)) (sym r.2) (before.1 r.0 (omega (arith, r.1, symbols_many bs)));
          productions = λ p m.
              let r = stands_at no_production p (grammar_of bs).productions m in
              subst (GoodProduction (N bs)) (sym r.2) (before.2 r.0 (omega (arith, r.1, productions_many bs)));
          edges = good;
          ordered = all;
          ascending = ascending;
          runs =
              run_is_all
              bs
              sorted
              (omega (arith, before.0.1.edges))
              before.0.2.given
              (λ i h. omega (arith, (all i h).0.production_there, produced i h, productions_many bs));
        }

pub valid : TakenIsValid
valid bs e =
    let r = not_refused bs (refusal bs) (ending bs) e in
    is_valid bs r.0 r.1
