-- What a walk by a step leaves, up or down: it keeps to what is looked for, and where it adds nothing, that is found. Assumes nothing.
use mathlib.Core.Path.{◌≡◌, sym, subst, ◌∙◌}
use mathlib.Core.Bool.{Bool, true, false}
use mathlib.Core.List.{List}
use Prim.Native.Nat.{ℕ, ◌-◌, ◌<◌}
use native.Mathlib.Omega.{arith}
use Rattle.grammar.specs.declared.Production.{Production}
use Rattle.parts.specs.Sets.{Symbols}
use Rattle.parts.specs.Rule as rule
use Rattle.parts.proofs.Sets.{Within, IsSet, In}
use Rattle.parts.proofs.Sizes.{size, size_most}
use Rattle.parts.proofs.Walks.{step, Closed, walk_more, walk_holds, still_closed, out_more, out_closed, out_only}
use Rattle.walks.specs.Walk.{turned, Added}
use Rattle.walks.proofs.Orders.{of_turned, in_turned}

-- each walk that adds something brings the end nearer
pub nearer : (A B : Symbols) (more : Bool) → Added A B more → more ≡ true → 256 - size B < 256 - size A
nearer A B more added e = omega (arith, added.something e, size_most B)

module _
    (test : Symbols → Production → Bool) (targets : Production → List ℕ)
    (mono : (A B : Symbols) (p : Production) → Within A B → test A p ≡ true → test B p ≡ true)
    (ps : List Production) (begun : Symbols) (b : IsSet begun) where
  -- what is looked for
  abbrev pub out : Symbols
  out = rule.grown_out (rule.walk (step test targets) ps) begun

  pub out_begun : Within begun (rule.grown_out (rule.walk (step test targets) ps) begun)
  out_begun = out_more test targets mono ps begun b

  module _ (A : Symbols) (i : IsSet A) (u : Within begun A) (w : Within A (rule.grown_out (rule.walk (step test targets) ps) begun)) where
    pub done : Closed test targets mono ps A → A ≡ out
    done = out_only test targets mono ps begun b A i u w

    module _ (up : Bool) (B : Symbols) (more : Bool) (e : B ≡ rule.walk (step test targets) (turned up ps) A) (added : Added A B more) where
      pub kept : Within begun B × Within B out
      kept =
          subst (λ C. Within begun C × Within C out) (sym e) (
            (λ s h. walk_more test targets mono (turned up ps) A i s (u s h)),
            walk_holds test targets mono (In out) (turned up ps) A i
                (λ C p m h t. out_closed test targets mono ps begun b p (of_turned up ps p m) (mono C out p h t)) w,
          )

      pub found : more ≡ false → B ≡ out
      found f =
          let still = added.nothing f in
          still ∙ done (λ p m. still_closed test targets mono (turned up ps) A i (sym e ∙ still) p (in_turned up ps p m))
