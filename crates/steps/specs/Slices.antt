-- Entries in four parallel lent slices of numbers. Assumes nothing.
use Rattle.std.specs.Prelude.{cond, List, ℕ, ◌*◌, ◌/◌, min, ltb, length, get_or, set, take, drop}
use Rattle.std.proofs.lemmas.List.Edits.{sets}
use Rattle.rules.specs.declared.Entry.{Entry}
use Rattle.rules.specs.Passes.{no_entry}

pub record Slices : Type 0 where
  pub symbols : List ℕ
  pub graphs : List ℕ
  pub productions : List ℕ
  pub kids : List ℕ

abbrev pub slices : List ℕ → List ℕ → List ℕ → List ℕ → Slices
slices a b c d = record { symbols = a; graphs = b; productions = c; kids = d }

-- ---- the room

-- the smallest of what slices of these lengths can hold, seven kids for each entry, and at most 4096
abbrev pub room_for : ℕ → ℕ → ℕ → ℕ → ℕ
room_for symbols graphs productions kids = min 4096 (min symbols (min graphs (min productions (kids / 7))))

abbrev pub room_of : Slices → ℕ
room_of σ = room_for (length σ.symbols) (length σ.graphs) (length σ.productions) (length σ.kids)

-- ---- one entry

unfoldable pub entry_at : Slices → ℕ → Entry
entry_at σ i =
    record {
      symbol = get_or σ.symbols i 0;
      graph = get_or σ.graphs i 0;
      production = get_or σ.productions i 0;
      kids = take 7 (drop (7 * i) σ.kids);
    }

-- where the slices hold no entry i, one of zeros
abbrev pub entry_in : Slices → ℕ → Entry
entry_in σ i = cond (ltb i (room_of σ)) (entry_at σ i) no_entry

-- with the entry as number n
abbrev pub put : Slices → ℕ → Entry → Slices
put σ n e =
    slices (set σ.symbols n e.symbol) (set σ.graphs n e.graph) (set σ.productions n e.production)
    (sets σ.kids (7 * n) e.kids)

-- where the slices have room for one of this number
abbrev pub put_in : Slices → ℕ → Entry → Slices
put_in σ n e = cond (ltb n (room_of σ)) (put σ n e) σ
