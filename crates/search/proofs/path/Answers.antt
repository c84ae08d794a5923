-- `search::path` meets its contract. Assumes nothing.
use mathlib.Core.Path.{◌≡◌, ap, ap₂, ◌∙◌}
use mathlib.Core.List.{List, []}
use Prim.Native.Nat.{ℕ}
use native.Mathlib.Omega.{arith}
use Rattle.graph.specs.Search.{path_of}
use Rattle.graph.specs.Trails.{trail_of}
use Rattle.graph.proofs.PathFound.{path_from_out, path_out, path_none}
use Rattle.graph.proofs.Searching.{path_met, path_written, no_path}
use Rattle.search.proofs.path.Goals as goal
use Rattle.search.proofs.path.Goals.{then-m-x-via-then-m-x, then-m-x-via-else-m-x+then-m-y}

pub returns-then-m-x : goal.returns-then-m-x
returns-then-m-x c =
    let a = c.args in
    let rows = c.new-graph.result.rows.now in
    let none : path_of rows a.x a.y ≡ [] =
    elim c.then-m-x.branch [
      | then-m-x-via-then-m-x w ↦ path_from_out rows a.x a.y (omega arith)
      | then-m-x-via-else-m-x+then-m-y w ↦ path_out rows a.x a.y (omega arith)
    ] in
    c.no_trail.ensures
    ∙ no_path 8 a.masks.now rows a.x a.y none
    ∙ ap (λ (rows : List ℕ). trail_of 8 a.masks.now (path_of rows a.x a.y) a.y) c.new-graph.ensures.rows

pub written-requires : goal.written-requires
written-requires c =
    let a = c.args in
    let found = c.in-Some.ensures in
    (omega arith, omega arith, found.1, path_met 8 a.masks.now c.new-graph.result.rows.now a.x a.y found.0 found.1)

pub returns : goal.returns
returns c =
    let a = c.args in
    let found = c.in-Some.ensures in
    path_written 8 c.new-graph.result.masks.now c.new-graph.result.rows.now a.x a.y found.0 (omega arith) found.1 c.written.ensures
    ∙ ap₂ (λ (masks rows : List ℕ). trail_of 8 masks (path_of rows a.x a.y) a.y) c.new-graph.ensures.masks c.new-graph.ensures.rows

pub returns-in_default : goal.returns-in_default
returns-in_default c =
    let a = c.args in
    let rows = c.new-graph.result.rows.now in
    c.no_trail-in_default.ensures
    ∙ no_path 8 a.masks.now rows a.x a.y (path_none rows a.x a.y c.in_default.ensures)
    ∙ ap (λ (rows : List ℕ). trail_of 8 a.masks.now (path_of rows a.x a.y) a.y) c.new-graph.ensures.rows
