-- The rules' way to store as a mode: the list of entries, all of them live, and step 4 looks for the same graph. Assumes nothing.
use Rattle.std.specs.Prelude.{◌≡◌, refl, Bool, true, false, List, [], ◌∷◌, ◌++◌, map, ℕ}
use Rattle.std.proofs.Common.{arith}
use Rattle.rules.specs.declared.Entry.{Entry}
use Rattle.rules.specs.Passes.{System, candidates, combinations, graphs, known}
use Rattle.orders.specs.Modes.{Judged, round, needless, fresh, new_entry, Mode}

-- steps 3 and 4 by their tests
unfoldable pub judged : Bool → Bool → List Entry → Judged (List Entry)
judged true old t = round
judged false true t = needless
judged false false t = fresh t

-- what is fresh is the new store
pub fresh_adds : (a b : Bool) (t u : List Entry) → judged a b t ≡ fresh u → u ≡ t
unfolding judged
fresh_adds true b t u e = let z : ◌≡◌ {A = ℕ} 0 1 = cc in absurd (omega arith)
fresh_adds false true t u e = let z : ◌≡◌ {A = ℕ} 0 1 = cc in absurd (omega arith)
fresh_adds false false t u e = cc

module _ (W : System) where
  -- the combinations of a turn
  abbrev pub offers : ℕ → List Entry → List (List ℕ)
  offers p es = combinations (map (candidates es) (W.rights p))

  abbrev pub judge : ℕ → List ℕ → List Entry → Judged (List Entry)
  judge p c es =
      judged (W.circle p (graphs es c)) (known (W.left p) (W.graph p (graphs es c)) es) (es ++ (new_entry W p c es ∷ []))

  abbrev pub plain : Mode W
  plain = record {
    Store = List Entry;
    start = [];
    entries = λ es. es;
    Live = λ es i. Unit {0};
    Over = λ h g. h ≡ g;
    judge = judge;
    none = refl;
    adds = λ p c s t e. fresh_adds (W.circle p (graphs s c)) (known (W.left p) (W.graph p (graphs s c)) s) _ t e;
  }
