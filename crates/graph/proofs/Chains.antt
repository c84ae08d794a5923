-- Chains of links: as paths of the graph, by how many they are, node by node. Assumes nothing.
use mathlib.Core.Path.{◌≡◌, refl}
use mathlib.Core.List.Memᴰ
use mathlib.Core.List.{List, [], ◌∷◌, ◌++◌, Memᴰ}
use Prim.Native.Nat.{ℕ, zero, suc, ◌+◌, ◌≤◌, ◌<◌}
use native.Mathlib.Omega.{arith}
use lib.ListN.{length, get_or}
use Rattle.numbers.specs.Paths.{Plus, one, snoc}
use Rattle.numbers.proofs.Members.{at_cons}
use Rattle.numbers.proofs.Ways.{on}
use Rattle.graph.specs.Paths.{Linked, Chain, IsPath, IsCircle}
use Rattle.graph.specs.Marks.{targets_of}
use Rattle.graph.proofs.Closure.{leads_lt}
use Rattle.graph.proofs.Levels.{Reach, reach_join}

-- ---- a chain is a path of the graph, and each path is a chain

chain_plus : (rows : List ℕ) (x : ℕ) (zs : List ℕ) (y : ℕ) → Chain rows x zs y → Plus (Linked rows) x y
chain_plus rows x [] y h = one h
chain_plus rows x (z ∷ zs) y h = on (one h.0) (chain_plus rows z zs y h.1)

chain_more : (rows : List ℕ) (x : ℕ) (zs : List ℕ) (y w : ℕ) → Chain rows x zs y → Linked rows y w → Chain rows x (zs ++ y ∷ []) w
chain_more rows x [] y w h e = (h, e)
chain_more rows x (z ∷ zs) y w h e = (h.0, chain_more rows z zs y w h.1 e)

pub plus_chain : (rows : List ℕ) {x y : ℕ} → Plus (Linked rows) x y → (zs : List ℕ) × Chain rows x zs y
plus_chain rows (one e) = ([], e)
plus_chain rows {x} (snoc {y = y} {z = w} p e) =
    let r = plus_chain rows p in
    (r.0 ++ y ∷ [], chain_more rows x r.0 y w r.1 e)

pub path_plus : (rows : List ℕ) (x y : ℕ) (c : List ℕ) → IsPath rows x y c → Plus (Linked rows) x y
path_plus rows x y [] h = absurd h
path_plus rows x y (z ∷ zs) h = rw h.0 at (chain_plus rows z zs y h.1)

-- through each node between
chain_through : (rows : List ℕ) (x : ℕ) (zs : List ℕ) (y z : ℕ) → Chain rows x zs y → Memᴰ z zs
    → Plus (Linked rows) x z × Plus (Linked rows) z y
chain_through rows x [] y z h m = absurd (Memᴰ.not-nil m)
chain_through rows x (u ∷ zs) y z h m =
    at_cons (λ (v : ℕ). Plus (Linked rows) x v × Plus (Linked rows) v y)
    (one h.0, chain_plus rows u zs y h.1)
    (λ k.
    let r = chain_through rows u zs y z h.1 k in
    (on (one h.0) r.0, r.1))
    m

-- from each node of a circle a path leads back to it
pub circle_through : (rows c : List ℕ) → IsCircle rows c → (x : ℕ) → Memᴰ x c → Plus (Linked rows) x x
circle_through rows [] h x m = absurd h
circle_through rows (s ∷ ws) h x m =
    at_cons (λ (u : ℕ). Plus (Linked rows) u u) (chain_plus rows s ws s h.1)
    (λ k.
    let r = chain_through rows s ws s x h.1 k in
    on r.1 r.0)
    m

-- ---- how many links they are

pub chain_reach : (rows : List ℕ) (x : ℕ) (zs : List ℕ) (y : ℕ) → Chain rows x zs y → Reach rows (suc (length zs)) x y
chain_reach rows x [] y h = (y, h, refl)
chain_reach rows x (z ∷ zs) y h = (z, h.0, chain_reach rows z zs y h.1)

-- each node after s, on a circle of n links from s, is on one of n links from itself: so s is the smallest, if it is of these
pub around : (rows : List ℕ) (n s : ℕ) → ((y : ℕ) → Reach rows n y y → s ≤ y)
    → (a x : ℕ) (ys : List ℕ) → Reach rows a s x → Chain rows x ys s → a + suc (length ys) ≡ n → (y : ℕ) → Memᴰ y ys → s ≤ y
around rows n s h a x [] p q e y m = absurd (Memᴰ.not-nil m)
around rows n s h a x (z ∷ ys) p q e y m =
    let p' : Reach rows (a + 1) s z = reach_join rows a 1 s x z p (z, q.0, refl) in
    let e' : suc (length ys) + (a + 1) ≡ n = omega arith in
    at_cons (λ (u : ℕ). s ≤ u)
    (h z (rw e' at (reach_join rows (suc (length ys)) (a + 1) z s z (chain_reach rows z ys s q.1) p')))
    (λ k. around rows n s h (a + 1) z ys p' q.1 (omega arith) y k)
    m

-- ---- node by node

-- each has a row
chain_low : (rows : List ℕ) (x : ℕ) (zs : List ℕ) (y : ℕ) → Chain rows x zs y → (z : ℕ) → Memᴰ z (x ∷ zs) → z < length rows
chain_low rows x [] y h z m = at_cons (λ (u : ℕ). u < length rows) (leads_lt rows x y h) (λ k. absurd (Memᴰ.not-nil k)) m
chain_low rows x (u ∷ zs) y h z m = at_cons (λ (u : ℕ). u < length rows) (leads_lt rows x u h.0) (chain_low rows u zs y h.1 z) m

pub is_path_low : (rows : List ℕ) (x y : ℕ) (c : List ℕ) → IsPath rows x y c → (z : ℕ) → Memᴰ z c → z < length rows
is_path_low rows x y [] h z m = absurd h
is_path_low rows x y (u ∷ us) h z m = chain_low rows u us y h.1 z m

-- from each a link leads to the target at its place
chain_at : (rows : List ℕ) (x : ℕ) (zs : List ℕ) (y : ℕ) → Chain rows x zs y
    → (i : ℕ) → i < suc (length zs) → Linked rows (get_or (x ∷ zs) i 0) (get_or (zs ++ y ∷ []) i 0)
chain_at rows x [] y h zero l = h
chain_at rows x [] y h (suc i) l = absurd (omega arith)
chain_at rows x (z ∷ zs) y h zero l = h.0
chain_at rows x (z ∷ zs) y h (suc i) l = chain_at rows z zs y h.1 i (omega arith)

pub path_at : (rows : List ℕ) (x y : ℕ) (c : List ℕ) → IsPath rows x y c
    → (i : ℕ) → i < length c → Linked rows (get_or c i 0) (get_or (targets_of c y) i 0)
path_at rows x y [] h i l = absurd h
path_at rows x y (z ∷ zs) h i l = chain_at rows z zs y h.1 i l
