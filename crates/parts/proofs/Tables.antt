-- The rule for a table that is taken: it has at most 256 symbols, each symbol of a production is one of them, and its productions are whole.
-- Assumes nothing.
use mathlib.Core.List.{List}
use mathlib.Core.Path.{◌≡◌, refl, sym, ◌∙◌}
use Prim.Native.Nat.{ℕ}
use native.Mathlib.Omega.{arith}
use borrow.Author.Tests.{le-leb}
use lib.Dec.{leb}
use mathlib.Core.Bool.{true, false}
use lib.ListN.{length, length-map}
use Rattle.numbers.specs.Lists.{up_from}
use Rattle.numbers.proofs.Ranges.{length_up_from}
use Rattle.grammar.specs.Table.{N, start_of, at_edges, grammar_of}
use Rattle.parts.specs.Sets.{Symbols, none}
use Rattle.parts.specs.Rule.{if_whole}
use Rattle.parts.specs.Exactly.{ValidNumbered, ValidExactly, TakesPartExactly, ValidWhole}
use Rattle.parts.proofs.Exactly.{exactly_numbered}

module _ (bs : List ℕ) where
  symbols_many : length (grammar_of bs).symbols ≡ N bs
  unfolding grammar_of
  symbols_many = length-map (up_from 0 (N bs)) _ ∙ length_up_from 0 (N bs)

  pub start_is : (grammar_of bs).start ≡ start_of bs
  unfolding grammar_of
  start_is = refl

pub valid_numbered : ValidNumbered
valid_numbered bs v =
    record {
      few = omega (arith, symbols_many bs, v.counts.symbols);
      start = omega (arith, symbols_many bs, start_is bs, v.counts.start);
      left = λ p m. omega (arith, symbols_many bs, (v.productions p m).left);
      right = λ p m s k. omega (arith, symbols_many bs, (v.productions p m).right s k);
    }

pub valid_exactly : ValidExactly
valid_exactly bs v = exactly_numbered (grammar_of bs) (valid_numbered bs v)

-- the rule finds the productions that take part, and no others
pub takes_part : TakesPartExactly
takes_part bs v = (valid_exactly bs v).takes_part

-- ---- where the productions are whole, and where not

module _ (bs : List ℕ) (A : Symbols) where
  pub set_whole : leb (at_edges bs) (length bs) ≡ true → A ≡ if_whole bs A
  unfolding if_whole
  set_whole h = rw h

  pub set_short : leb (at_edges bs) (length bs) ≡ false → none ≡ if_whole bs A
  unfolding if_whole
  set_short h = rw h

pub valid_whole : ValidWhole
valid_whole bs v A = sym (set_whole bs A (le-leb (at_edges bs) (length bs) (omega (arith, v.offsets.given))))
