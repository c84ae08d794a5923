-- The grammars A and B of the rules as systems, with the graphs that the rules give: 0 → 1, 1 → nothing, 1 → nothing. Assumes nothing.
use Rattle.std.specs.Prelude.{false, List, [], ◌∷◌, ℕ, zero, suc, eqb, get_or}
use Rattle.rules.specs.Passes.{System}

-- by the number of the production
abbrev pub pick : {A : Type 0} → ℕ → A → A → A → A
pick zero x y z = x
pick (suc zero) x y z = y
pick (suc (suc p)) x y z = z

-- production 1 has the graph g, production 2 the graph 2048, and production 0 has a circle over the graph of both
unfoldable pub small : ℕ → System
small g =
    record {
      left = λ p. pick p 0 1 1;
      rights = λ p. pick p (1 ∷ []) [] [];
      graph = λ p gs. pick p 0 g 2048;
      circle = λ p gs. pick p (eqb (get_or gs 0 0) 2052) false false;
    }

abbrev pub A : System
A = small 4

abbrev pub B : System
B = small 2052

abbrev pub productions : List ℕ
productions = 0 ∷ 1 ∷ 2 ∷ []
