-- Small grammars of each kind that has something to skip, and two that have nothing. Assumes nothing.
use mathlib.Core.List.{[], ◌∷◌}
use mathlib.Core.Path.{◌≡◌, refl}
use Rattle.trees.specs.Small.{grammar_a, grammar_c}
use Rattle.parts.specs.Rule.{taking}
use Rattle.parts.specs.Small.{spare, endless, chain}
use Rattle.parts.specs.Opened.{opened_parts}

pub samples :
    (taking spare ≡ 0 ∷ [])
    × (taking endless ≡ 2 ∷ [])
    -- the start symbol has no finite tree
    × (taking grammar_c ≡ [])
    × (taking grammar_a ≡ 0 ∷ 1 ∷ 2 ∷ [])
    × (taking chain ≡ 0 ∷ 1 ∷ 2 ∷ 3 ∷ 4 ∷ [])
unfolding opened_parts
samples = (refl, refl, refl, refl, refl)
