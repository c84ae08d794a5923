-- What a table that is not refused gives: a grammar as the trees ask for it, and what takes part. Assumes nothing.
use mathlib.Core.Path.{◌≡◌, sym, ap, ◌∙◌}
use mathlib.Core.List.Memᴰ
use mathlib.Core.List.{List, Memᴰ}
use Prim.Native.Nat.{ℕ, ◌+◌, ◌*◌}
use native.Mathlib.Omega.{arith}
use lib.ListN.{length}
use Rattle.std.specs.Prelude.{Ok}
use Rattle.numbers.specs.Lists.{up_from}
use Rattle.grammar.specs.declared.Production.{Production}
use Rattle.grammar.specs.Table.{P, width_of, at_productions, production_in, grammar_of}
use Rattle.grammar.specs.Refusal.{refusal}
use Rattle.grammar.proofs.Lookups.{slots_many}
use Rattle.grammar.proofs.Valid.{valid}
use Rattle.trees.specs.Tree.{WellFormed, AtMost}
use Rattle.parts.specs.Exactly.{Exactly}
use Rattle.parts.proofs.Tables.{valid_exactly}

-- a production of a table has seven slots
slots_there : (bs : List ℕ) (p : Production) → Memᴰ p (grammar_of bs).productions → length p.slots ≡ 7
unfolding grammar_of
slots_there bs p m =
    let r = Memᴰ.of_map (λ i. production_in bs (at_productions bs + 18 * i)) (up_from 0 (P bs)) m in
    ap (λ (q : Production). length q.slots) (sym r.2) ∙ slots_many bs (at_productions bs + 18 * r.0)

pub obeys : (bs : List ℕ) → refusal bs ≡ Ok tt → WellFormed (grammar_of bs) × AtMost (width_of bs) (grammar_of bs)
obeys bs e =
    let v = valid bs e in (
      record {
        slots = λ p m. omega (arith, slots_there bs p m, (v.productions p m).few);
        edges = v.edges;
      },
      λ s m. (v.symbols s m).count,
    )

-- the rule finds the productions that take part
pub exact : (bs : List ℕ) → refusal bs ≡ Ok tt → Exactly (grammar_of bs)
exact bs e = valid_exactly bs (valid bs e)
