-- The structs of slices that are lent, as what the slices hold. Assumes nothing.
use Rattle.std.specs.Prelude.{◌≡◌}
use Rattle.steps.specs.declared.Store.{Store}
use Rattle.steps.specs.declared.Entries.{Entries}
use Rattle.steps.specs.Slices.{Slices, slices}

abbrev pub held : Store → Slices
held s = slices s.symbols.now s.graphs.now s.productions.now s.kids.now

abbrev pub read : Entries → Slices
read s = slices s.symbols.now s.graphs.now s.productions.now s.kids.now

-- a store is left with the loans that it came with, so that what it holds at the end stands in the lent slices
pub record Lent (s t : Store) : Type 0 where
  pub symbols : t.symbols.ghost_name ≡ s.symbols.ghost_name
  pub graphs : t.graphs.ghost_name ≡ s.graphs.ghost_name
  pub productions : t.productions.ghost_name ≡ s.productions.ghost_name
  pub kids : t.kids.ghost_name ≡ s.kids.ghost_name
