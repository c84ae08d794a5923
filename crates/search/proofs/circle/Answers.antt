-- `search::circle` meets its contract. Assumes nothing.
use mathlib.Core.Path.{ap, ap₂, ◌∙◌}
use mathlib.Core.List.{List}
use Prim.Native.Nat.{ℕ}
use Rattle.graph.specs.Search.{circle_of}
use Rattle.graph.specs.Trails.{circle_trail}
use Rattle.graph.proofs.Searching.{path_met, start_found, circle_written, no_circle}
use Rattle.search.proofs.circle.Goals as goal

pub written-requires : goal.written-requires
written-requires c =
    let rows = c.new-graph.result.rows.now in
    let b = c.in-Some.nearest in
    let s = start_found 8 c.args.masks.now rows b c.in-Some.ensures in
    (s.0, s.0, c.in-Some.ensures.1, path_met 8 c.args.masks.now rows b.start b.start s.1 c.in-Some.ensures.1)

pub returns : goal.returns
returns c =
    circle_written 8 c.new-graph.result.masks.now c.new-graph.result.rows.now c.in-Some.nearest c.in-Some.ensures c.written.ensures
    ∙ ap₂ (λ (masks rows : List ℕ). circle_trail 8 masks (circle_of rows)) c.new-graph.ensures.masks c.new-graph.ensures.rows

pub returns-in_default : goal.returns-in_default
returns-in_default c =
    c.no_trail.ensures
    ∙ no_circle 8 c.args.masks.now c.new-graph.result.rows.now c.in_default.ensures
    ∙ ap (λ (rows : List ℕ). circle_trail 8 c.args.masks.now (circle_of rows)) c.new-graph.ensures.rows
