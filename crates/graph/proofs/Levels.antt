-- The sets that the search goes through: a node is in the k-th level of y exactly if k links lead from it to y. Assumes nothing.
use mathlib.Core.Path.{◌≡◌, sym, ◌∙◌, subst}
use mathlib.Core.List.{List}
use mathlib.Core.Logic.{⊎_elim}
use Prim.Native.Nat.{ℕ, zero, suc, ◌+◌, ◌^◌, ◌<◌, min, max}
use native.Mathlib.Nat.{zero-add, suc-add}
use native.Mathlib.Decide.{ℕ_discrete}
use native.Mathlib.Omega.{arith}
use lib.Bits.{bit_and}
use lib.ListN.{length, get_or}
use Rattle.numbers.specs.Number.{bit}
use Rattle.numbers.proofs.Bits.{bit_lt, bit_zero, bit_power, one_of}
use Rattle.numbers.proofs.Meets.{meets, met_pos}
use Rattle.graph.specs.Paths.{Linked}
use Rattle.graph.specs.Search.{into, level}
use Rattle.graph.proofs.Closure.{join_bit, leads_lt}

-- ---- the nodes with a link into a set

abbrev Into : List ℕ → ℕ → ℕ → Type 0
Into rows set i = (j : ℕ) × Linked rows i j × (bit j set ≡ 1)

into_sound : (n : ℕ) (rows : List ℕ) (set i : ℕ) → bit i (into n rows set) ≡ 1 → Into rows set i
unfolding into
into_sound zero rows set i h = absurd (omega (arith, h, bit_zero i))
into_sound (suc n) rows set i h =
    let common = bit_and (get_or rows n 0) set in
    ⊎_elim (λ e. into_sound n rows set i e)
    (λ e.
    let here : bit i (2 ^ n) ≡ 1 = omega (arith, e, bit_lt i (2 ^ n)) in
    subst (Into rows set) (sym ((bit_power n i).0 here)) (meets (get_or rows n 0) set (omega (arith, e))))
    (one_of (bit i (into n rows set)) (min common (bit i (2 ^ n))) (sym (join_bit common i (2 ^ n) (into n rows set)) ∙ h))

into_complete : (n : ℕ) (rows : List ℕ) (set i j : ℕ) → i < n → Linked rows i j → bit j set ≡ 1 → bit i (into n rows set) ≡ 1
unfolding into
into_complete zero rows set i j l p q = absurd (omega arith)
into_complete (suc n) rows set i j l p q =
    join_bit (bit_and (get_or rows n 0) set) i (2 ^ n) (into n rows set) ∙ go (ℕ_discrete i n) (λ k. into_complete n rows set i j k p q)
  where
    go : Dec (i ≡ n) → (i < n → bit i (into n rows set) ≡ 1)
        → max (bit i (into n rows set)) (min (bit_and (get_or rows n 0) set) (bit i (2 ^ n))) ≡ 1
    go (yes e) r =
        omega (arith, met_pos j (get_or rows n 0) set (rw e at p) q, (bit_power n i).1 e, bit_lt i (into n rows set))
    go (no f) r = omega (arith, r (omega arith), bit_lt i (2 ^ n))

-- ---- k links from x to y

abbrev pub Reach : List ℕ → ℕ → ℕ → ℕ → Type 0
Reach rows zero x y = x ≡ y
Reach rows (suc k) x y = (z : ℕ) × Linked rows x z × Reach rows k z y

-- the first of them leaves a node that has a row
pub reach_lt : (rows : List ℕ) (k x y : ℕ) → Reach rows (suc k) x y → x < length rows
reach_lt rows k x y h = leads_lt rows x h.0 h.1

pub reach_join : (rows : List ℕ) (a b x y z : ℕ) → Reach rows a x y → Reach rows b y z → Reach rows (a + b) x z
reach_join rows zero b x y z p q = rw (zero-add, p) q
reach_join rows (suc a) b x y z p q = rw suc-add (p.0, p.1, reach_join rows a b p.0 y z p.2 q)

pub level_sound : (rows : List ℕ) (y k x : ℕ) → bit x (level rows y k) ≡ 1 → Reach rows k x y
unfolding level
level_sound rows y zero x h = (bit_power y x).0 h
level_sound rows y (suc k) x h =
    let p = into_sound (length rows) rows (level rows y k) x h in
    (p.0, p.1, level_sound rows y k p.0 p.2)

pub level_complete : (rows : List ℕ) (y k x : ℕ) → Reach rows k x y → bit x (level rows y k) ≡ 1
unfolding level
level_complete rows y zero x h = (bit_power y x).1 h
level_complete rows y (suc k) x h =
    into_complete (length rows) rows (level rows y k) x h.0 (reach_lt rows k x y h) h.1 (level_complete rows y k h.0 h.2)
