-- The theorems about the rule, as statements. Assumes nothing.
use mathlib.Core.List.{List, [], Memᴰ}
use Rattle.std.specs.Prelude.{◌↔◌, ◌≡◌, ℕ, ◌≤◌, ◌<◌, length}
use Rattle.grammar.specs.declared.Production.{Production}
use Rattle.grammar.specs.Grammar.{Grammar, rights}
use Rattle.grammar.specs.Table.{grammar_of}
use Rattle.grammar.specs.Valid.{Valid}
use Rattle.trees.specs.Tree.{Tree, Complete, Circular}
use Rattle.trees.specs.Record.{OfTree}
use Rattle.trees.specs.TakesPart.{HasTree, FromStart, TakesPart, CircularFromStart, PairFromStart}
use Rattle.parts.specs.Sets.{Symbols}
use Rattle.parts.specs.Rule.{taking, if_whole}

-- what the rules of the table give: at most 256 symbols, and each symbol of a production is one of them
pub record Numbered (g : Grammar) : Type 0 where
  pub few : length g.symbols ≤ 256
  pub start : g.start < length g.symbols
  pub left : (p : Production) → Memᴰ p g.productions → p.left < length g.symbols
  pub right : (p : Production) → Memᴰ p g.productions → (s : ℕ) → Memᴰ s (rights p) → s < length g.symbols

-- the rule finds the production p
abbrev pub Found : Grammar → ℕ → Type 0
Found g p = Memᴰ p (taking g)

-- The rule finds the productions that take part, and no others; so what is said of trees of these productions is said of trees from the start
-- symbol and their subtrees.
pub record Exactly (g : Grammar) : Type 1 where
  pub takes_part : (p : ℕ) → Found g p ↔ TakesPart g p
  pub subtrees : (t : Tree) → Complete g (Found g) t ↔ FromStart g t
  pub circular : Circular g (Found g) ↔ CircularFromStart g
  pub pairs :
      (Graph : Type 0) (Holds : Graph → ℕ → ℕ → Type 0) (q : ℕ × Graph) → OfTree g Holds (Found g) q ↔ PairFromStart g Holds q
  -- where the start symbol has no finite tree nothing takes part
  pub nothing : (¬ HasTree g g.start) → taking g ≡ []

abbrev pub ExactlyNumbered : Type 1
ExactlyNumbered = (g : Grammar) → Numbered g → Exactly g

-- ---- for every table that is taken

abbrev pub ValidNumbered : Type 0
ValidNumbered = (bs : List ℕ) → Valid bs → Numbered (grammar_of bs)

abbrev pub ValidExactly : Type 1
ValidExactly = (bs : List ℕ) → Valid bs → Exactly (grammar_of bs)

abbrev pub TakesPartExactly : Type 0
TakesPartExactly = (bs : List ℕ) → Valid bs → (p : ℕ) → Found (grammar_of bs) p ↔ TakesPart (grammar_of bs) p

-- its bytes do not end before its productions do
abbrev pub ValidWhole : Type 0
ValidWhole = (bs : List ℕ) → Valid bs → (A : Symbols) → if_whole bs A ≡ A
