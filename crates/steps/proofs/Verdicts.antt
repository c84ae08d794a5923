-- The verdict by its tests, and what a verdict says of them. Assumes nothing.
use mathlib.Core.Path.{◌≡◌, refl, sym, ap, ◌∙◌}
use mathlib.Core.Bool.{Bool, true, false, false≢true}
use mathlib.Core.List.{List}
use Prim.Native.Nat.{ℕ, ◌≤◌, ◌<◌}
use native.Mathlib.Omega.{arith}
use lib.Dec.{eqb}
use borrow.Author.Tests.{eqb-false}
use Rattle.graph.specs.Rows.{has_circle, root_graph}
use Rattle.compounds.specs.Combination.{closed_in}
use Rattle.steps.specs.declared.Task.{Task}
use Rattle.steps.specs.declared.Verdict.{Verdict}
use Rattle.steps.specs.declared.Verdict.TheVariants.{Steps, Circle, Known, Full, New}
use Rattle.steps.specs.Slices.{Slices, put_in}
use Rattle.std.specs.Prelude.{Result, Ok, Err}
use Rattle.steps.specs.Step.{graph_or, seen_in, least, verdict, judged, counts, stores, entry_of, slices_at}

-- from the answers of the four tests
pub judged_by : (k : Task) (edges symbols graphs : List ℕ) (left stored : ℕ) (picked : List ℕ) (steps circle known full : Bool) (graph n : ℕ)
    → eqb left 0 ≡ steps
    → circle ≡ has_circle (closed_in edges graphs k.count picked)
    → graph ≡ root_graph 8 (closed_in edges graphs k.count picked)
    → n ≡ least symbols graphs stored
    → seen_in symbols graphs k.symbol graph n ≡ known
    → eqb stored k.room ≡ full
    → verdict steps circle known full ≡ judged k edges symbols graphs left stored picked
unfolding judged
judged_by k edges symbols graphs left stored picked steps circle known full graph n h₁ h₂ h₃ h₄ h₅ h₆ = cc

counts_by : (a b c d : Bool) → counts (verdict a b c d) ≡ true → a ≡ false
unfolding verdict
counts_by true b c d h = absurd (false≢true h)
counts_by false b c d h = refl

stores_by : (a b c d : Bool) → stores (verdict a b c d) ≡ true → d ≡ false
unfolding verdict
stores_by true b c d h = absurd (false≢true h)
stores_by false true c d h = absurd (false≢true h)
stores_by false false true d h = absurd (false≢true h)
stores_by false false false true h = absurd (false≢true h)
stores_by false false false false h = refl

module _ (k : Task) (edges symbols graphs : List ℕ) (left stored : ℕ) (picked : List ℕ) where
  -- where the closure is counted, one was left
  pub is_left : counts (judged k edges symbols graphs left stored picked) ≡ true → 1 ≤ left
  unfolding judged
  is_left h = omega (arith, eqb-false left 0 (counts_by _ _ _ _ h))

  -- where an entry is stored, there was room
  pub has_room : stores (judged k edges symbols graphs left stored picked) ≡ true → stored ≤ k.room → stored < k.room
  unfolding judged
  has_room h l = omega (arith, eqb-false stored k.room (stores_by _ _ _ _ h))

-- the slices by whether an entry is stored
module _ (k : Task) (graph : ℕ) (picked : List ℕ) (stored : ℕ) (σ : Slices) where
  pub slices_new : (v : Verdict) → stores v ≡ true → put_in σ stored (entry_of k graph picked) ≡ slices_at v k graph picked stored σ
  unfolding slices_at
  slices_new Steps h = absurd (false≢true h)
  slices_new Circle h = absurd (false≢true h)
  slices_new Known h = absurd (false≢true h)
  slices_new Full h = absurd (false≢true h)
  slices_new New h = refl

  pub slices_same : (v : Verdict) → stores v ≡ false → σ ≡ slices_at v k graph picked stored σ
  unfolding slices_at
  slices_same Steps h = refl
  slices_same Circle h = refl
  slices_same Known h = refl
  slices_same Full h = refl
  slices_same New h = absurd (false≢true (sym h))

-- ---- what comes of the first five steps

abbrev graph_in : Result ℕ Verdict → ℕ
graph_in (Ok graph) = graph
graph_in (Err v) = 0

abbrev verdict_in : Result ℕ Verdict → Verdict
verdict_in (Ok graph) = New
verdict_in (Err v) = v

abbrev is_graph : Result ℕ Verdict → Bool
is_graph (Ok graph) = true
is_graph (Err v) = false

module _ (g : ℕ) where
  verdict_of : (v : Verdict) → verdict_in (graph_or g v) ≡ v
  verdict_of Steps = refl
  verdict_of Circle = refl
  verdict_of Known = refl
  verdict_of Full = refl
  verdict_of New = refl

  stored_by : (v : Verdict) → is_graph (graph_or g v) ≡ stores v
  stored_by Steps = refl
  stored_by Circle = refl
  stored_by Known = refl
  stored_by Full = refl
  stored_by New = refl

  module _ {v : Verdict} where
    pub graph_given : {h : ℕ} → Ok h ≡ graph_or g v → (New ≡ v) × (h ≡ g)
    graph_given e =
        let new : New ≡ v = ap verdict_in e ∙ verdict_of v in
        (new, ap graph_in (e ∙ ap (graph_or g) (sym new)))

    pub verdict_given : {w : Verdict} → Err w ≡ graph_or g v → (w ≡ v) × (stores v ≡ false)
    verdict_given e = (ap verdict_in e ∙ verdict_of v, sym (stored_by v) ∙ sym (ap is_graph e))
