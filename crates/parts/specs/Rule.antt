-- The productions that take part, as one finds them by hand: the symbols that have a finite tree, grown until nothing is added; then, from the
-- start symbol if it has one, the symbols that are reached through productions all of whose right symbols have one. Assumes nothing.
use Rattle.std.specs.Prelude.{Bool, true, false, cond, List, [], ◌∷◌, ℕ, zero, suc, leb, length}
use Rattle.numbers.specs.Lists.{both, every, keep, up_from}
use Rattle.grammar.specs.declared.Production.{Production}
use Rattle.grammar.specs.Grammar.{Grammar, production, rights}
use Rattle.grammar.specs.Table.{at_edges}
use Rattle.parts.specs.Sets.{Symbols, none, has, add_if, same_sets}

-- ---- walks over the productions

-- each production in its turn makes of the set another
unfoldable pub walk : (Symbols → Production → Symbols) → List Production → Symbols → Symbols
walk f [] A = A
walk f (p ∷ ps) A = walk f ps (f A p)

-- again and again, until the last time has added nothing; at most k times
unfoldable pub again : ℕ → Bool → (Symbols → Symbols) → Symbols → Symbols
again zero nothing f A = A
again (suc k) true f A = A
again (suc k) false f A = again k (same_sets (f A) A) f (f A)

-- each walk but the last adds one of 256 symbols, so 256 are enough (`out_closed`)
unfoldable pub grown_out : (Symbols → Symbols) → Symbols → Symbols
grown_out f A = again 256 false f A

-- ---- the symbols that have a finite tree

-- a production all of whose right symbols have one gives one to its left symbol
unfoldable pub grown : Symbols → Production → Symbols
grown A p = add_if (every (has A) (rights p)) A (p.left ∷ [])

unfoldable pub treed : Grammar → Symbols
treed g = grown_out (walk grown g.productions) none

-- ---- the symbols that are reached, where those of T have a finite tree

-- the start symbol, if it has one
unfoldable pub begun : Symbols → ℕ → Symbols
begun T s = add_if (has T s) none (s ∷ [])

-- a production of a reached symbol, all of whose right symbols have one, leads to its right symbols
unfoldable pub spread : Symbols → Symbols → Production → Symbols
spread T A p = add_if (both (has A p.left) (every (has T) (rights p))) A (rights p)

unfoldable pub reached : Grammar → Symbols → Symbols
reached g T = grown_out (walk (spread T) g.productions) (begun T g.start)

-- ---- what takes part

-- the left symbol is reached, and each right symbol has a finite tree
unfoldable pub takes_part : Symbols → Symbols → Production → Bool
takes_part T R p = both (has R p.left) (every (has T) (rights p))

-- the productions of the table that do, by number: what a pass goes over
unfoldable pub taking : Grammar → List ℕ
taking g =
    let T = treed g in
    keep (λ p. takes_part T (reached g T) (production g p)) (up_from 0 (length g.productions))

-- ---- of a table; where the bytes end before its productions do, a set has no symbol
unfoldable pub if_whole : List ℕ → Symbols → Symbols
if_whole bs A = cond (leb (at_edges bs) (length bs)) A none
