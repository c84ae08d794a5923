-- `steps::Entries::seen` meets its contract. Assumes nothing.
use mathlib.Core.List.{List}
use mathlib.Core.Path.{◌≡◌, sym, ap, ◌∙◌}
use Prim.Native.Nat.{ℕ, ◌-◌}
use native.Mathlib.Omega.{arith}
use lib.Dec.{eqb}
use lib.ListN.{get_or}
use Rattle.numbers.specs.Lists.{both}
use Rattle.numbers.proofs.Decides.{Decides, not_so, eq_decides, both_decides}
use Rattle.numbers.proofs.Downward.{some_passes, some_fails, some_done}
use Rattle.steps.specs.Step.{seen_in, least}
use Rattle.steps.proofs.Entries.seen.Goals as goal
use Rattle.steps.proofs.Entries.seen.Goals.{else-self-k-via-then-self-k+else-self-k-2, else-self-k-via-else-self-k}

-- the entry that is looked at
is_it : (symbols graphs : List ℕ) (y g i : ℕ)
    → Decides (both (eqb (get_or symbols i 0) y) (eqb (get_or graphs i 0) g)) ((get_or symbols i 0 ≡ y) × (get_or graphs i 0 ≡ g))
is_it symbols graphs y g i = both_decides (eq_decides (get_or symbols i 0) y) (eq_decides (get_or graphs i 0) g)

pub returns-then-self-k-2 : goal.returns-then-self-k-2
returns-then-self-k-2 c =
    let a = c.args in
    let all : c.min-both.result ≡ least a.self.symbols.now a.self.graphs.now a.stored = omega (arith, c.min-both.ensures, c.min.ensures) in
    sym (some_passes _ c.loop-k.k c.loop-k-test.true ((is_it a.self.symbols.now a.self.graphs.now a.symbol a.graph (c.loop-k.k - 1)).passes (c.if-self-k.true, c.if-self-k-2.true)))
    ∙ c.loop-k.invariant
    ∙ ap (seen_in a.self.symbols.now a.self.graphs.now a.symbol a.graph) all

pub loop-k-preserved : goal.loop-k-preserved
loop-k-preserved c =
    let a = c.args in
    let other : ((get_or a.self.symbols.now (c.loop-k.k - 1) 0 ≡ a.symbol) × (get_or a.self.graphs.now (c.loop-k.k - 1) 0 ≡ a.graph) → ⊥) =
    elim c.else-self-k.branch [
      | else-self-k-via-then-self-k+else-self-k-2 w ↦ (λ p. w.if-self-k-2.false p.1)
      | else-self-k-via-else-self-k w ↦ (λ p. w.if-self-k.false p.0)
    ] in
    some_fails _ c.loop-k.k c.loop-k-test.true (not_so (is_it a.self.symbols.now a.self.graphs.now a.symbol a.graph (c.loop-k.k - 1)) other)
    ∙ c.loop-k.invariant

pub returns : goal.returns
returns c =
    let a = c.args in
    let all : c.min-both.result ≡ least a.self.symbols.now a.self.graphs.now a.stored = omega (arith, c.min-both.ensures, c.min.ensures) in
    sym (some_done _ c.loop-k.k c.loop-k-test.false) ∙ c.loop-k.invariant ∙ ap (seen_in a.self.symbols.now a.self.graphs.now a.symbol a.graph) all
