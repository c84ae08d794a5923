-- The graph of the root has the pair (a, b) exactly if the rows have the edge; of closed rows, exactly if there is a path. For any number w
-- of attributes. Assumes nothing.
use mathlib.Core.Path.{◌≡◌, sym, ap, ◌∙◌, subst₂}
use mathlib.Core.List.{List}
use mathlib.Core.Logic.{⊎_elim, ◌↔◌}
use Prim.Native.Nat.{ℕ, zero, suc, ◌+◌, ◌*◌, ◌/◌, ◌%◌, ◌^◌, ◌<◌, max}
use native.Mathlib.Nat.{add_comm, mul_comm, mul-suc, mod-lt, lt_of_lt_of_le}
use native.Mathlib.Decide.{ℕ_discrete}
use native.Mathlib.Omega.{arith}
use lib.Arith.{digits_div, digits_mod}
use lib.Bits.{or_lt}
use lib.ListN.{get_or}
use lib.Pow.{pow_mono, pow_pos, shl_lt}
use Rattle.numbers.specs.Number.{bit}
use Rattle.numbers.specs.Paths.{Plus, Leads}
use Rattle.numbers.proofs.Bits.{bit_lt, bit_zero, bit_of_or, one_of, block_bit, block_made}
use Rattle.graph.specs.Rows.{bits, closure, root_to, root_graph}
use Rattle.graph.proofs.Closure.{closure_path}

-- ---- a pair's number, w * a + b, has one a and one b

pub one_pair : (w a b c d : ℕ) → b < w → d < w → w * a + b ≡ w * c + d → (a ≡ c) × (b ≡ d)
one_pair w a b c d lb ld e =
    let f : a * w + b ≡ c * w + d = omega (arith, mul_comm a w, mul_comm c w) in (
      sym (digits_div a lb) ∙ ap (λ (x : ℕ). x / w) f ∙ digits_div c ld,
      sym (digits_mod a lb) ∙ ap (λ (x : ℕ). x % w) f ∙ digits_mod c ld,
    )

-- ---- the pairs of the root's graph

module _ (w : ℕ) (rows : List ℕ) where
  -- the pairs that begin in attribute n
  abbrev last : ℕ → ℕ
  last n = get_or rows n 0 % 2 ^ w * 2 ^ (w * n)

  root_edge : (n m : ℕ) → bit m (root_to w n rows) ≡ 1 → (a : ℕ) × (b : ℕ) × (b < w) × (m ≡ w * a + b) × Leads (bits rows) a b
  unfolding root_to
  root_edge zero m h = absurd (omega (arith, bit_zero m))
  root_edge (suc n) m h =
      ⊎_elim (root_edge n m)
      (λ e.
      let p = block_bit w (w * n) (get_or rows n 0) m e in
      (n, p.0, p.1, p.2, p.3))
      (one_of (bit m (root_to w n rows)) (bit m (last n)) (sym (bit_of_or m (root_to w n rows) (last n)) ∙ h))

  root_made : (n a b : ℕ) → a < n → b < w → Leads (bits rows) a b → bit (w * a + b) (root_to w n rows) ≡ 1
  unfolding root_to
  root_made zero a b la lb h = absurd (omega arith)
  root_made (suc n) a b la lb h = bit_of_or (w * a + b) (root_to w n rows) (last n) ∙ go (ℕ_discrete a n) (λ l. root_made n a b l lb h)
    where
      go : Dec (a ≡ n) → (a < n → bit (w * a + b) (root_to w n rows) ≡ 1)
          → max (bit (w * a + b) (root_to w n rows)) (bit (w * a + b) (last n)) ≡ 1
      go (yes e) r =
          let q : bit (w * a + b) (last n) ≡ 1 = rw e (block_made w (w * n) (get_or rows n 0) b lb (rw e at h)) in
          omega (arith, bit_lt (w * a + b) (root_to w n rows))
      go (no f) r = omega (arith, r (omega arith), bit_lt (w * a + b) (last n))

  pub root_leads : (a b : ℕ) → a < w → b < w → (bit (w * a + b) (root_graph w rows) ≡ 1) ↔ Leads (bits rows) a b
  root_leads a b la lb = (
    λ h.
        let p = root_edge w (w * a + b) h in
        let d = one_pair w a b p.0 p.1 lb p.2 p.3 in
        subst₂ (λ (x y : ℕ). Leads (bits rows) x y) (sym d.0) (sym d.1) p.4,
    root_made w a b la lb,
  )

  root_to_lt : (n : ℕ) → root_to w n rows < 2 ^ (w * n)
  unfolding root_to
  root_to_lt zero = pow_pos (w * 0)
  root_to_lt (suc n) =
      let e : w * suc n ≡ w + w * n = mul-suc w n ∙ add_comm (w * n) w in
      rw e
      (or_lt (w + w * n) (root_to w n rows) (last n) (lt_of_lt_of_le (root_to_lt n) (pow_mono (omega arith)))
      (shl_lt w (w * n) (mod-lt (get_or rows n 0) (pow_pos w))))

  pub root_lt : root_graph w rows < 2 ^ (w * w)
  root_lt = root_to_lt w

-- of the closed rows
pub root_path : (w : ℕ) (rows : List ℕ) (a b : ℕ) → a < w → b < w
    → (bit (w * a + b) (root_graph w (closure rows)) ≡ 1) ↔ Plus (Leads (bits rows)) a b
root_path w rows a b la lb =
    let i = root_leads w (closure rows) a b la lb in
    let p = closure_path rows a b in
    (λ h. p.0 (i.0 h), λ q. i.1 (p.1 q))
