-- The pairs of picked entries, placed one after the other at the occurrences of the right symbols. Assumes nothing.
use mathlib.Core.Path.{◌≡◌, ◌∙◌}
use mathlib.Core.List.{List, map}
use Prim.Native.Nat.{ℕ, suc, ◌≤◌, ◌<◌, ◌+◌, min}
use native.Mathlib.Numerals.{add-one}
use native.Mathlib.Omega.{arith}
use lib.ListN.{length, get_or, take, drop, length-map, length-take, drop_of_length-le}
use lib.Seq.{drop-cons}
use Rattle.numbers.proofs.Members.{at_map}
use Rattle.graph.specs.Rows.{placed, placed_from}
use Rattle.compounds.specs.Combination.{picked_graphs}

-- the graphs of entries
abbrev pub graphs_at : List ℕ → List ℕ → List ℕ
graphs_at graphs numbers = map (λ i. get_or graphs i 0) numbers

pub length_picked : (graphs : List ℕ) (count : ℕ) (picked : List ℕ) → length (picked_graphs graphs count picked) ≡ min count (length picked)
length_picked graphs count picked = length-map (take count picked) (λ i. get_or graphs i 0) ∙ omega (arith, length-take count picked)

pub one_placed : (graphs numbers rows : List ℕ) (k : ℕ) {g : ℕ} {placed_rows : List ℕ} → k < length numbers → g ≡ get_or graphs (get_or numbers k 0) 0
    → placed_rows ≡ placed 8 (k + 1) g rows
    → placed_from 8 (suc (k + 1)) (drop (k + 1) (graphs_at graphs numbers)) placed_rows ≡ placed_from 8 (suc k) (drop k (graphs_at graphs numbers)) rows
unfolding placed_from
one_placed graphs numbers rows k h e p =
    let f : ℕ → ℕ = λ i. get_or graphs i 0 in
    rw (p, e, ← at_map f 0 0 numbers k h, add-one k, drop-cons (map f numbers) k 0 (omega (arith, length-map numbers f)))

pub none_left : (graphs numbers rows : List ℕ) (k : ℕ) → length numbers ≤ k
    → rows ≡ placed_from 8 (suc k) (drop k (graphs_at graphs numbers)) rows
unfolding placed_from
none_left graphs numbers rows k h =
    let f : ℕ → ℕ = λ i. get_or graphs i 0 in
    rw (drop_of_length-le (map f numbers) {i = k} (omega (arith, length-map numbers f)))
