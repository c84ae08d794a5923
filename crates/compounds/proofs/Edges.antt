-- The nodes in a run of edge records, one record after the other. Assumes nothing.
use mathlib.Core.Path.{◌≡◌, ap, ap₂, ◌∙◌}
use mathlib.Core.List.{List, []}
use Prim.Native.Nat.{ℕ, zero, suc, ◌<◌, ◌+◌, ◌*◌}
use native.Mathlib.Omega.{arith}
use lib.ListN.{get_or, drop}
use Rattle.std.specs.Simd.{first_chunks}
use Rattle.std.proofs.lemmas.List.{get_or-take, get_or-drop}
use Rattle.grammar.specs.Table.{node_in}

-- byte j of chunk k
chunk_byte : (n m k j : ℕ) (xs : List ℕ) → k < m → j < n → get_or (get_or (first_chunks n m xs) k []) j 0 ≡ get_or xs (n * k + j) 0
chunk_byte n zero k j xs h l = elim h [ ]
chunk_byte n (suc m) zero j xs h l = get_or-take n xs j 0 l ∙ ap (λ (i : ℕ). get_or xs i 0) (omega arith)
chunk_byte n (suc m) (suc k) j xs h l =
    chunk_byte n m k j (drop n xs) (omega arith) l ∙ get_or-drop n xs (n * k + j) 0 ∙ ap (λ (i : ℕ). get_or xs i 0) (omega arith)

-- the node at j of record k
pub node_read : (run : List ℕ) (m k j : ℕ) → k < m → j < 5 → node_in (get_or (first_chunks 6 m run) k []) j ≡ node_in run (6 * k + j)
node_read run m k j h l =
    let after : get_or run (6 * k + (j + 1)) 0 ≡ get_or run (6 * k + j + 1) 0 = ap (λ (i : ℕ). get_or run i 0) (omega arith) in
    ap₂ (λ (o a : ℕ). record { occurrence = o; attribute = a }) (chunk_byte 6 m k j run h (omega arith))
    (chunk_byte 6 m k (j + 1) run h (omega arith) ∙ after)
