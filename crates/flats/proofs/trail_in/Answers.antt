-- `flats::trail_in` meets its contract. The invariant: the number of nodes, and the first i nodes and marks, stand in their places. Assumes
-- nothing.
use mathlib.Core.Path.{◌≡◌, refl, sym, ap, ap₂, ◌∙◌}
use mathlib.Core.List.{List, [], ◌∷◌, ◌++◌}
use Prim.Native.Nat.{ℕ, suc, ◌+◌, ◌<◌}
use native.Mathlib.Numerals.{add-one}
use native.Mathlib.Omega.{arith}
use lib.ListN.{length, get_or, take, drop, set, length-set, length-drop, take-append-drop}
use lib.Seq.{take_all, take-suc, take-suc-set, take-set-le, drop-set-lt, drop-set-add}
use borrow.Author.Rules.{rules}
use Rattle.flats.specs.Flat.{Begun}
use Rattle.flats.proofs.trail_in.Goals as goal

-- two lists that begin alike, and one place more
alike_more : (xs ys : List ℕ) (i v : ℕ) → take i xs ≡ take i ys → v ≡ get_or ys i 0 → i < length xs → i < length ys
    → take (suc i) (set xs i v) ≡ take (suc i) ys
alike_more xs ys i v e f l m =
    take-suc-set xs i v l ∙ ap₂ (λ (zs : List ℕ) (u : ℕ). zs ++ u ∷ []) e f ∙ sym (take-suc ys i 0 m)

begun_more : {nodes marks out : List ℕ} {x i a b : ℕ} → Begun nodes marks x i out → i < 64 → length nodes ≡ 64 → length marks ≡ 64
    → a ≡ get_or nodes i 0 → b ≡ get_or marks i 0 → Begun nodes marks x (i + 1) (set (set out (1 + i) a) (65 + i) b)
begun_more {nodes} {marks} {out} {x} {i} {a} {b} s l n m f g =
    let long = length-set out (suc i) a ∙ s.long in
    let rest = length-drop 65 out in
    let next : 1 + i ≡ suc i = omega arith in
    rw (add-one, next)
    record {
      long = length-set (set out (suc i) a) (65 + i) b ∙ long;
      nodes =
          take-set-le (suc (suc i)) (set out (suc i) a) (65 + i) b (omega arith)
          ∙ alike_more out (x ∷ nodes) (suc i) a s.nodes f (omega arith) (omega arith);
      marks =
          ap (take (suc i)) (drop-set-add 65 (set out (suc i) a) i b
          ∙ ap (λ (l : List ℕ). set l i b) (drop-set-lt 65 out (suc i) a (omega arith)))
          ∙ alike_more (drop 65 out) marks i b s.marks g (omega arith) (omega arith);
    }

begun_all : {nodes marks out : List ℕ} {x : ℕ} → Begun nodes marks x 64 out → length nodes ≡ 64 → length marks ≡ 64
    → out ≡ x ∷ nodes ++ marks
begun_all {nodes} {marks} {out} {x} s n m =
    sym (take-append-drop 65 out)
    ∙ ap₂ (λ (l r : List ℕ). l ++ r) (s.nodes ∙ ap (λ (l : List ℕ). x ∷ l) (take_all 64 nodes (omega arith)))
    (sym (take_all 64 (drop 65 out) (omega (arith, length-drop 65 out, s.long))) ∙ s.marks ∙ take_all 64 marks (omega arith))

pub loop-i-init : goal.loop-i-init
loop-i-init c =
    let out = c.args.out.now in
    record {
      long = length-set out 0 c.from.result ∙ c.requires;
      nodes = take-suc-set out 0 c.from.result (omega arith) ∙ ap (λ (x : ℕ). x ∷ []) c.from.ensures;
      marks = refl;
    }

pub loop-i-preserved : goal.loop-i-preserved
loop-i-preserved c =
    begun_more c.loop-i.invariant (omega arith) (search rules) (search rules) c.from-in-loop-i.ensures c.from-in-loop-i-2.ensures

pub returns : goal.returns
returns c = let e : c.loop-i.i ≡ 64 = omega arith in begun_all (rw e at c.loop-i.invariant) (search rules) (search rules)
