-- `circles::mask_at` meets its contract. Assumes nothing.
use mathlib.Core.Path.{ap, ◌∙◌}
use Prim.Native.Nat.{ℕ}
use Rattle.grammar.specs.declared.Symbol.{Symbol}
use Rattle.grammar.specs.Grammar.{symbol}
use Rattle.grammar.specs.Table.{grammar_of}
use Rattle.circles.proofs.mask_at.Goals as goal

pub returns : goal.returns
returns c =
    let g = grammar_of c.args.table.now in
    ap (λ (s : Symbol). s.mask) c.symbol_of.ensures
    ∙ ap (λ (i : ℕ). (symbol g i).mask) (c.from.ensures ∙ c.symbol_at-symbol.ensures)
