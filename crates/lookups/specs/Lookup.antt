-- A row of entries: where one is first found in it. Assumes nothing.
use Rattle.std.specs.Prelude.{Bool, ◌&&◌, List, Option, ℕ, eqb, position}
use Rattle.rules.specs.declared.Entry.{Entry}
use Rattle.rules.specs.Passes.{same}

-- an entry of this symbol with this graph
abbrev pub of : ℕ → ℕ → Entry → Bool
of symbol graph e = eqb e.symbol symbol && same e.graph graph

-- the number of the first entry of this symbol with this graph, if there is one
abbrev pub first_of : ℕ → ℕ → List Entry → Option ℕ
first_of symbol graph es = position (of symbol graph) es
