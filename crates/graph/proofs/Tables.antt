-- The compound graphs of a table that is not refused: their rows in a table of 64. Assumes nothing.
use mathlib.Core.Path.{◌≡◌, sym, ap, ◌∙◌}
use mathlib.Core.List.{List}
use Prim.Native.Nat.{ℕ, suc, ◌*◌, ◌≤◌}
use native.Mathlib.Decide.{dec_le}
use native.Mathlib.Omega.{arith}
use lib.Dec.{eqb}
use lib.ListN.{length, take, replicate, get_or-eq_default}
use borrow.Author.Tests.{eqb-true}
use Rattle.std.specs.Prelude.{Ok}
use Rattle.numbers.proofs.Members.{member_at, keep_mem}
use Rattle.grammar.specs.declared.Node.{Node}
use Rattle.grammar.specs.declared.Production.{Production}
use Rattle.grammar.specs.Grammar.{Grammar, no_symbol, no_production, symbol, production, symbol_at, edges_of}
use Rattle.grammar.specs.Table.{edges_in, grammar_of}
use Rattle.grammar.specs.Rules.{NodeThere}
use Rattle.grammar.specs.Refusal.{refusal}
use Rattle.grammar.specs.Reading.{run_of}
use Rattle.grammar.specs.Valid.{Valid}
use Rattle.grammar.proofs.Valid.{valid}
use Rattle.graph.specs.Rows.{own, placed_from, compound}
use Rattle.graph.specs.Compound.{Within, EdgesWithin}
use Rattle.graph.proofs.Parts.{table_compound}

module _ (bs : List ℕ) (good : refusal bs ≡ Ok tt) where
  abbrev g : Grammar
  g = grammar_of bs

  taken : Valid bs
  taken = valid bs good

  few_attributes : (i : ℕ) → (symbol g i).count ≤ 8
  few_attributes i = go (dec_le (suc i) (length g.symbols))
    where
      go : Dec (suc i ≤ length g.symbols) → (symbol g i).count ≤ 8
      go (yes l) = (taken.symbols (symbol g i) (member_at no_symbol g.symbols i l)).count
      go (no n) =
          let e : symbol g i ≡ no_symbol = get_or-eq_default g.symbols no_symbol (omega arith) in
          rw e (omega arith)

  pub few_rights : (p : ℕ) → (production g p).n ≤ 7
  few_rights p = go (dec_le (suc p) (length g.productions))
    where
      go : Dec (suc p ≤ length g.productions) → (production g p).n ≤ 7
      go (yes l) = (taken.productions (production g p) (member_at no_production g.productions p l)).few
      go (no n) =
          let e : production g p ≡ no_production = get_or-eq_default g.productions no_production (omega arith) in
          rw e (omega arith)

  node_within : (p : Production) (n : ℕ) (x : Node) → n ≡ p.n → NodeThere g p x → Within 8 n x
  node_within p n x e h =
      record {
        occurrence = omega (arith, h.occurrence);
        attribute = omega (arith, h.attribute, few_attributes (symbol_at p x.occurrence));
      }

  edges_within : (p n : ℕ) → n ≡ (production g p).n → EdgesWithin 8 n (edges_of g p)
  edges_within p n e x m =
      let w = keep_mem (λ y. eqb y.production p) g.edges m in
      let q : n ≡ (production g x.production).n = e ∙ ap (λ (i : ℕ). (production g i).n) (sym (eqb-true x.production p w.1)) in
      let h = taken.edges x w.0 in
      (node_within (production g x.production) n x.source q h.source, node_within (production g x.production) n x.target q h.target)

  pub rows_made : (p : ℕ) (gs : List ℕ) → length gs ≡ (production g p).n
      → take (8 * suc (length gs)) (placed_from 8 1 gs (own 8 (edges_of g p) (replicate 64 0))) ≡ compound 8 (edges_of g p) gs
  rows_made p gs h = table_compound 8 64 (edges_of g p) gs (edges_within p (length gs) h) (omega (arith, h, few_rights p))

  -- the same of the run of records that the table has for the production
  pub run_made : (p : ℕ) (gs : List ℕ) → length gs ≡ (production g p).n
      → take (8 * suc (length gs)) (placed_from 8 1 gs (own 8 (edges_in (run_of bs p)) (replicate 64 0))) ≡ compound 8 (edges_of g p) gs
  run_made p gs h = rw (taken.runs p) (rows_made p gs h)
