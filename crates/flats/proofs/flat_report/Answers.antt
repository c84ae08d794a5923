-- `flats::flat_report` meets its contract. Assumes nothing.
use mathlib.Core.List.{List, [], ◌∷◌, ◌++◌, append-nil}
use mathlib.Core.Path.{◌≡◌, ap, ap₂, ◌∙◌}
use Prim.Native.Nat.{ℕ, ◌<◌}
use native.Mathlib.Omega.{arith}
use borrow.Author.Rules.{rules}
use borrow.Rule.Slice.PartMut.{put_mid}
use lib.ListN.{length, get_or, drop, set, length-drop, drop_of_length-le}
use lib.Seq.{take_at, drop_at}
use Rattle.flats.proofs.flat_report.Goals as goal

-- seven numbers, one by one, which are those of another list
seven : (xs ys : List ℕ) → length xs ≡ 7 → ((i : ℕ) → i < 7 → get_or xs i 0 ≡ get_or ys i 0)
    → xs ≡ get_or ys 0 0 ∷ get_or ys 1 0 ∷ get_or ys 2 0 ∷ get_or ys 3 0 ∷ get_or ys 4 0 ∷ get_or ys 5 0 ∷ get_or ys 6 0 ∷ []
seven (x0 ∷ x1 ∷ x2 ∷ x3 ∷ x4 ∷ x5 ∷ x6 ∷ []) ys l at =
    λ j.
    at 0 (omega arith) j
    ∷ at 1 (omega arith) j
    ∷ at 2 (omega arith) j
    ∷ at 3 (omega arith) j
    ∷ at 4 (omega arith) j
    ∷ at 5 (omega arith) j
    ∷ at 6 (omega arith) j
    ∷ []
seven _ ys l at = absurd (omega arith)

-- five places written one by one, the next seven as one, and the rest
made : (out ks zs : List ℕ) (a b c d e : ℕ) → length out ≡ 141 → length ks ≡ 7
    → put_mid 12 129 (put_mid 5 7 (set (set (set (set (set out 0 a) 1 b) 2 c) 3 d) 4 e) ks) zs ≡ a ∷ b ∷ c ∷ d ∷ e ∷ ks ++ zs
made (_ ∷ _ ∷ _ ∷ _ ∷ _ ∷ out) ks zs a b c d e l k =
    let rest = drop 7 out in
    let back : drop 129 (drop 7 (ks ++ rest)) ≡ [] =
    ap (drop 129) (drop_at ks rest 7 k) ∙ drop_of_length-le rest {i = 129} (omega (arith, length-drop 7 out)) in
    ap₂ (λ (fs bs : List ℕ). a ∷ b ∷ c ∷ d ∷ e ∷ fs ++ (zs ++ bs)) (take_at ks rest 7 k) back
    ∙ ap (λ (zs : List ℕ). a ∷ b ∷ c ∷ d ∷ e ∷ ks ++ zs) (append-nil zs)
made _ ks zs a b c d e l k = absurd (omega arith)

pub returns : goal.returns
returns c =
    let r = c.args.report in
    let ks = c.copy_from_slice.new.self in
    let copied = c.copy_from_slice.ensures.after in
    let given : (i : ℕ) → i < 7 → get_or c.map.result i 0 ≡ get_or r.root i 0 =
    λ i l. let called = (c.map.ensures.items.at i 0 0 l).2 in search rules in
    made c.args.out.now ks c.trail_in.new.out c.number_of.result c.value_of.result r.closures c.from.result c.from-2.result
    (omega arith)
    (omega (arith, c.map.ensures.items.long, ap length copied))
    ∙ (λ j.
    c.number_of.ensures j
    ∷ c.value_of.ensures j
    ∷ r.closures
    ∷ c.from.ensures j
    ∷ c.from-2.ensures j
    ∷ (copied ∙ seven c.map.result r.root c.map.ensures.items.long given) j
    ++ c.trail_in.ensures j)
