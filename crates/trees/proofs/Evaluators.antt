-- What an evaluator does on a complete tree of a well-formed grammar. Assumes nothing.
use mathlib.Core.Bool.{Bool, true, false, true≢false}
use mathlib.Core.List.Memᴰ
use mathlib.Core.List.{List, [], ◌∷◌, Memᴰ}
use mathlib.Core.Logic.{◌⊎◌, inl, inr, ⊎_elim, ⊎_map}
use mathlib.Core.Path.{◌≡◌, refl, sym, ◌∙◌, ap}
use Prim.Native.Nat.{ℕ, zero, suc, ◌+◌, ◌≤◌, ◌<◌}
use native.Mathlib.Omega.{arith}
use Rattle.numbers.specs.Paths.{Plus, Circle}
use Rattle.grammar.specs.Grammar.{Grammar}
use Rattle.trees.specs.Tree.{Tree, Complete, Instance, here, under, same_instance, instances, TreeEdge, WellFormed}
use Rattle.trees.specs.Evaluator.{Computed, left, given, not_given, MayTake, StandsStill, Reached, Position, Choice, Evaluator, onward, play}
use Rattle.numbers.proofs.Members.{at_cons}
use Rattle.numbers.proofs.Ways.{first_edge}
use Rattle.trees.proofs.Paths.{before}
use Rattle.trees.proofs.Values.{source_there, given_free, find, Search}
use Rattle.trees.proofs.Exactly.{once}
use Rattle.trees.proofs.Runs.{left_none, none_left, blocked, counted, something_ready}

by_true : (b : Bool) → (¬ (b ≡ false)) → b ≡ true
by_true true h = refl
by_true false h = absurd (h refl)

by_false : (b : Bool) → (¬ (b ≡ true)) → b ≡ false
by_false true h = absurd (h refl)
by_false false h = refl

-- ---- every run ends
module _ (g : Grammar) (t : Tree) where
  -- each taking leaves one value less; so a run has at most as many takings as there are values that are not given
  pub takings : {n : ℕ} {d : Computed Instance} → Reached g t n d → n + left d (instances g t) ≡ not_given g t
  takings r = counted same_instance (TreeEdge g t) (instances g t) (once g t) r

  -- ---- there is an evaluator: whether anything may be taken can be told
  ready? : (c : Computed Instance) (y : Instance) → Memᴰ y (instances g t) → MayTake g t c y ⊎ (¬ MayTake g t c y)
  ready? c y m = by (c y) refl (find g t c y)
    where
      by : (b : Bool) → c y ≡ b → Search (λ x. TreeEdge g t x y) c → MayTake g t c y ⊎ (¬ MayTake g t c y)
      by true e s = inr (λ n. true≢false (sym e ∙ n.uncomputed))
      by false e (inl (x, k, u)) = inr (λ n. true≢false (sym (n.sources x k) ∙ u))
      by false e (inr h) = inl (record { among = m; uncomputed = e; sources = h })

  any_ready :
      (c : Computed Instance) (l : List Instance) → ((y : Instance) → Memᴰ y l → Memᴰ y (instances g t))
      → ((y : Instance) × MayTake g t c y) ⊎ ((y : Instance) → Memᴰ y l → ¬ MayTake g t c y)
  any_ready c [] h = inr (λ y m. absurd (Memᴰ.not-nil m))
  any_ready c (y ∷ l) h = by (ready? c y (h y (Memᴰ.head refl))) (any_ready c l (λ z m. h z (Memᴰ.tail m)))
    where
      by :
          MayTake g t c y ⊎ (¬ MayTake g t c y)
          → ((z : Instance) × MayTake g t c z) ⊎ ((z : Instance) → Memᴰ z l → ¬ MayTake g t c z)
          → ((z : Instance) × MayTake g t c z) ⊎ ((z : Instance) → Memᴰ z (y ∷ l) → ¬ MayTake g t c z)
      by (inl n) r = inl (y, n)
      by (inr n) (inl r) = inl r
      by (inr n) (inr f) = inr (λ z. at_cons (λ x. ¬ MayTake g t c x) n (f z))

  pub evaluator : Evaluator g t
  evaluator p =
      ⊎_map (λ s. s) (λ f s. f s.0 s.1.among s.1) (any_ready p.computed (instances g t) (λ y m. m))

  -- ---- the own play of an evaluator
  module _ (ev : Evaluator g t) where
    -- it takes a value at each turn, unless it stands still
    pub takes_or_still : (k : ℕ) → ((play g t ev k).takings ≡ k) ⊎ StandsStill g t (play g t ev k).computed
    unfolding play
    takes_or_still zero = inl refl
    takes_or_still (suc k) = by (play g t ev k) (ev (play g t ev k)) (takes_or_still k)
      where
        by :
            (p : Position g t) (c : Choice g t p.computed) → (p.takings ≡ k) ⊎ StandsStill g t p.computed
            → ((onward g t p c).takings ≡ suc k) ⊎ StandsStill g t (onward g t p c).computed
        by p (inl (y, q)) (inl e) = inl (ap suc e)
        by p (inl (y, q)) (inr s) = absurd (s (y, q))
        by p (inr s) r = inr s

    -- and one value at the most
    pub no_faster : (k : ℕ) → (play g t ev k).takings ≤ k
    unfolding play
    no_faster zero = omega arith
    no_faster (suc k) = by (play g t ev k) (ev (play g t ev k)) (no_faster k)
      where
        by : (p : Position g t) (c : Choice g t p.computed) → p.takings ≤ k → (onward g t p c).takings ≤ suc k
        by p (inl (y, q)) l = omega arith
        by p (inr s) l = omega arith

    -- after as many turns as there are values that are not given it stands still
    pub stops : StandsStill g t (play g t ev (not_given g t)).computed
    stops = ⊎_elim (λ e. all_taken (omega (arith, e, takings p.way))) (λ s. s) (takes_or_still (not_given g t))
      where
        p : Position g t
        p = play g t ev (not_given g t)

        all_taken : left p.computed (instances g t) ≡ 0 → StandsStill g t p.computed
        all_taken e (y, q) = true≢false (sym (none_left p.computed (instances g t) e y q.among) ∙ q.uncomputed)

module _ (g : Grammar) (formed : WellFormed g) (Part : ℕ → Type 0) (t : Tree) (complete : Complete g Part t) where
  -- ---- a tree with no circle

  -- in every state with a value left, some value may be taken
  pub never_still :
      ¬ Circle (TreeEdge g t)
      → (c : Computed Instance) (y : Instance) → Memᴰ y (instances g t) → c y ≡ false
      → (z : Instance) × MayTake g t c z
  never_still h c = something_ready (TreeEdge g t) (instances g t) c h (source_there g formed Part t complete) (find g t c)

  -- so a run that stands still has taken all that is not given, and computed everything
  pub all_computed :
      ¬ Circle (TreeEdge g t)
      → {n : ℕ} {d : Computed Instance} → Reached g t n d → StandsStill g t d
      → (n ≡ not_given g t) × ((y : Instance) → Memᴰ y (instances g t) → d y ≡ true)
  all_computed h {n} {d} r s =
      let f : (y : Instance) → Memᴰ y (instances g t) → d y ≡ true = λ y m. by_true (d y) (λ e. s (never_still h d y m e)) in
      (omega (arith, takings g t r, left_none d (instances g t) f), f)

  -- the own play of an evaluator takes a value at each turn, until all that is not given is taken
  pub takes : ¬ Circle (TreeEdge g t) → (ev : Evaluator g t) (k : ℕ) → k ≤ not_given g t → (play g t ev k).takings ≡ k
  takes h ev k l =
      ⊎_elim (λ e. e) (λ s. omega (arith, no_faster g t ev k, (all_computed h (play g t ev k).way s).0)) (takes_or_still g t ev k)

  -- ---- a tree with a circle

  not_given_lem : (x : Instance) → Plus (TreeEdge g t) x x → given g t x ≡ false
  not_given_lem (here a) p = let b = before p in by_false (given g t (here a)) (λ k. given_free g formed t a b.0 k b.1)
  not_given_lem (under i x) p = refl

  -- at every moment of every run, each value on a circle is left over
  pub left_over :
      {n : ℕ} {d : Computed Instance} → Reached g t n d
      → (x : Instance) → Plus (TreeEdge g t) x x → Memᴰ x (instances g t) × (d x ≡ false)
  left_over r x p =
      let e = first_edge p in
      (source_there g formed Part t complete x e.0 e.1, blocked same_instance (TreeEdge g t) (instances g t) not_given_lem r x p)

  -- so a run takes less than what is not given
  pub fewer : Circle (TreeEdge g t) → {n : ℕ} {d : Computed Instance} → Reached g t n d → n < not_given g t
  fewer (x, p) {n} {d} r = by (left d (instances g t)) refl (takings g t r)
    where
      by : (k : ℕ) → left d (instances g t) ≡ k → n + k ≡ not_given g t → n < not_given g t
      by zero e f =
          let y = left_over r x p in
          absurd (true≢false (sym (none_left d (instances g t) e x y.0) ∙ y.1))
      by (suc k) e f = omega arith
