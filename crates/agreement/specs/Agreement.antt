-- How a row of records that was blank before the test is compared with parallel slices, in which so many entries are stored. The promise of
-- `agrees` needs none of this. Assumes nothing.
use Rattle.std.specs.Prelude.{Option, Some, None, List, ◌≡◌, ℕ, ◌≤◌, ◌<◌, length, take, replicate}
use Rattle.rules.specs.declared.Entry.{Entry}
use Rattle.rules.specs.Passes.{entry}
use Rattle.passes.specs.Slices.{Slices, room_of, entry_at}
use Rattle.lookups.specs.Lookup.{first_of}

-- what stands in every record before the test
abbrev pub blank_entry : Entry
blank_entry = record { symbol = 65535; graph = 0; production = 65535; kids = replicate 7 65535 }

-- the record e is the entry that is stored at i, and is found first there, and not among those before it
abbrev pub StoredAt : Slices → ℕ → Option ℕ → Option ℕ → Entry → Type 0
StoredAt σ i first before e = (i < room_of σ) × (first ≡ Some i) × (before ≡ None) × (e ≡ entry_at σ i)

-- the record e at i, which is found first at `first`, and among those before it at `before`, where n are stored
pub record AsTold (σ : Slices) (n i : ℕ) (first before : Option ℕ) (e : Entry) : Type 0 where
  pub stored : i < n → StoredAt σ i first before e
  pub rest : n ≤ i → e ≡ blank_entry

-- the first place in some entries of the symbol and the graph of e
abbrev pub place_of : Entry → List Entry → Option ℕ
place_of e es = first_of e.symbol e.graph es

-- the record of the row at i
abbrev pub AlikeAt : Slices → ℕ → List Entry → ℕ → Type 0
AlikeAt σ n es i = AsTold σ n i (place_of (entry es i) (take (length es) es)) (place_of (entry es i) (take i es)) (entry es i)

-- each of them
abbrev pub Alike : Slices → ℕ → List Entry → Type 0
Alike σ n es = (i : ℕ) → i < length es → AlikeAt σ n es i

-- 4096 times one entry
unfoldable pub row_of : Entry → List Entry
row_of e = replicate 4096 e
