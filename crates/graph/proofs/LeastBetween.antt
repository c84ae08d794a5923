-- Going on from x, always to the smallest node from which y is as near as it must be, is the least chain of k + 1 links to y. Assumes nothing.
use mathlib.Core.Path.{◌≡◌, refl, ap}
use mathlib.Core.List.{List, [], ◌∷◌}
use mathlib.Core.Logic.{inl, inr}
use Prim.Native.Nat.{ℕ, zero, suc, ◌≤◌, ◌<◌}
use native.Mathlib.Decide.{dec_lt}
use native.Mathlib.Omega.{arith}
use lib.Bits.{bit_and}
use lib.ListN.{length, get_or}
use Rattle.numbers.specs.Number.{bit}
use Rattle.numbers.specs.Lists.{Below}
use Rattle.numbers.proofs.Bits.{bit_lt}
use Rattle.numbers.proofs.Meets.{both_bits, met}
use Rattle.graph.specs.Paths.{Linked, Chain}
use Rattle.graph.specs.Search.{level, lowest, least_between}
use Rattle.graph.proofs.FirstFrom.{IsFirst, is_first}
use Rattle.graph.proofs.Levels.{Reach, reach_lt, level_sound, level_complete}
use Rattle.graph.proofs.Chains.{chain_reach}

module _ (rows : List ℕ) (y : ℕ) where
  -- the smallest node after x from which k + 1 links lead to y
  abbrev pub next_node : ℕ → ℕ → ℕ
  next_node k x = lowest (length rows) (bit_and (get_or rows x 0) (level rows y (suc k)))

  pub record Next (k x z : ℕ) : Type 0 where
    pub link : Linked rows x z
    pub on : Reach rows (suc k) z y
    pub low : (u : ℕ) → Linked rows x u → Reach rows (suc k) u y → z ≤ u

  pub next_is : (k x : ℕ) → Reach rows (suc (suc k)) x y → Next k x (next_node k x)
  next_is k x h = go (is_first (λ (j : ℕ). bit j both) (length rows) 0) (dec_lt h.0 z)
    where
      both : ℕ
      both = bit_and (get_or rows x 0) (level rows y (suc k))

      z : ℕ
      z = next_node k x

      has : (u : ℕ) → Linked rows x u → Reach rows (suc k) u y → bit u both ≡ 1
      has u p q = met u (get_or rows x 0) (level rows y (suc k)) p (level_complete rows y (suc k) u q)

      go : IsFirst (λ (j : ℕ). bit j both) (length rows) 0 z → Dec (h.0 < z) → Next k x z
      go f (yes l) = absurd (omega (arith, f.before h.0 (omega arith) l, has h.0 h.1 h.2))
      go f (no m) =
          let t = f.there (omega (arith, reach_lt rows k h.0 y h.2)) in
          let b = both_bits z (get_or rows x 0) (level rows y (suc k)) (omega (arith, t, bit_lt z both)) in
          record { link = b.0; on = level_sound rows y (suc k) z b.1; low = λ u p q. by u p q (dec_lt u z) }
        where
          by : (u : ℕ) → Linked rows x u → Reach rows (suc k) u y → Dec (u < z) → z ≤ u
          by u p q (yes l) = absurd (omega (arith, f.before u (omega arith) l, has u p q))
          by u p q (no o) = omega arith

  pub length_between : (k x : ℕ) → length (least_between rows y k x) ≡ k
  unfolding least_between
  length_between zero x = refl
  length_between (suc k) x = ap suc (length_between k (next_node k x))

  pub record LeastChain (k x : ℕ) (zs : List ℕ) : Type 0 where
    pub long : length zs ≡ k
    pub chain : Chain rows x zs y
    pub least : (us : List ℕ) → length us ≡ k → Chain rows x us y → ¬ Below us zs

  pub least_chain : (k x : ℕ) → Reach rows (suc k) x y → LeastChain k x (least_between rows y k x)
  unfolding least_between
  least_chain zero x h = record { long = refl; chain = rw h.2 at h.1; least = λ us e c. none us e }
    where
      none : (us : List ℕ) → length us ≡ 0 → ¬ Below us []
      none [] e b = b
      none (u ∷ us) e b = b
  least_chain (suc k) x h =
      let s = next_is k x h in
      go (next_node k x) s (least_between rows y k (next_node k x)) (least_chain k (next_node k x) s.on)
    where
      go : (z : ℕ) → Next k x z → (zs : List ℕ) → LeastChain k z zs → LeastChain (suc k) x (z ∷ zs)
      go z s zs g = record { long = ap suc g.long; chain = (s.link, g.chain); least = λ us e c. at us e c }
        where
          at : (us : List ℕ) → length us ≡ suc k → Chain rows x us y → ¬ Below us (z ∷ zs)
          at [] e c b = b
          at (u ∷ us) e c (inl b) =
              let e' : length us ≡ k = omega arith in
              omega (arith, b, s.low u c.0 (rw e' at (chain_reach rows u us y c.1)))
          at (u ∷ us) e c (inr b) = g.least us (omega arith) (rw b.0 at c.1) b.1
