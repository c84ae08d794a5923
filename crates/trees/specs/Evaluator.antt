-- Evaluators: which values are computed, what may be taken next, runs in any order, what it is to stand still, and where an evaluator
-- comes by its own choices. Assumes nothing.
use Rattle.std.specs.Prelude.{Bool, true, false, ◌⊎◌, ◌≡◌, ℕ, zero, suc, eqb}
use mathlib.Core.List.{List, [], ◌∷◌, Memᴰ}
use Rattle.std.proofs.Common.{inl, inr}
use Rattle.numbers.specs.Number.{bit}
use Rattle.grammar.specs.Grammar.{Grammar, symbol}
use Rattle.trees.specs.Tree.{Tree, Instance, here, under, same_instance, instances, root_symbol, TreeEdge}

-- which values are computed
abbrev pub Computed : Type 0 → Type 0
Computed A = A → Bool

abbrev pub true_if : {P : Type 0} → Dec P → Bool → Bool
true_if (yes p) b = true
true_if (no n) b = b

-- the state c after y is taken
unfoldable pub taken : {A : Type 0} → Discrete A → Computed A → A → Computed A
taken eq c y x = true_if (eq x y) (c x)

abbrev pub one_unless : Bool → ℕ → ℕ
one_unless true n = n
one_unless false n = suc n

-- how many of the values are not computed
abbrev pub left : {A : Type 0} → Computed A → List A → ℕ
left c [] = 0
left c (x ∷ xs) = one_unless (c x) (left c xs)

-- ---- over any graph E on some values
module _ {A : Type 0} (E : A → A → Type 0) (values : List A) where
  -- y may be taken: it is a value, is not computed, and all values that lead to it by one edge are
  pub record Ready (c : Computed A) (y : A) : Type 0 where
    pub among : Memᴰ y values
    pub uncomputed : c y ≡ false
    pub sources : (x : A) → E x y → c x ≡ true

  -- nothing may be taken
  abbrev pub Still : Computed A → Type 0
  Still c = ¬ ((y : A) × Ready c y)

module _ {A : Type 0} (eq : Discrete A) (E : A → A → Type 0) (values : List A) where
  -- n takings, each of one value that may be taken, lead from the state c to the state at the end
  pub data Run (c : Computed A) : ℕ → Computed A → Type 0 where
    start : Run c 0 c
    take : {n : ℕ} {d : Computed A} → Run c n d → (y : A) → Ready E values d y → Run c (suc n) (taken eq d y)

-- ---- over the attribute graph of a tree
module _ (g : Grammar) (t : Tree) where
  -- at the start only the root's inherited values are computed: they are given
  abbrev pub given : Computed Instance
  given (here a) = eqb (bit a (symbol g (root_symbol g t)).mask) 1
  given (under i x) = false

  -- how many values are not given
  abbrev pub not_given : ℕ
  not_given = left given (instances g t)

  abbrev pub MayTake : Computed Instance → Instance → Type 0
  MayTake = Ready (TreeEdge g t) (instances g t)

  abbrev pub StandsStill : Computed Instance → Type 0
  StandsStill = Still (TreeEdge g t) (instances g t)

  -- n takings from the start
  abbrev pub Reached : ℕ → Computed Instance → Type 0
  Reached = Run same_instance (TreeEdge g t) (instances g t) given

  -- where one may be: after how many takings, what is computed then, and by which takings
  pub record Position : Type 0 where
    pub takings : ℕ
    pub computed : Computed Instance
    pub way : Reached takings computed

  -- what is done next: a value is taken that may be taken, or there is none
  abbrev pub Choice : Computed Instance → Type 0
  Choice c = ((y : Instance) × MayTake c y) ⊎ StandsStill c

  -- an evaluator names, wherever it may be, a value that may be taken, unless there is none
  abbrev pub Evaluator : Type 0
  Evaluator = (p : Position) → Choice p.computed

  -- after what was named is taken
  abbrev pub onward : (p : Position) → Choice p.computed → Position
  onward p (inl (y, q)) =
      record { takings = suc p.takings; computed = taken same_instance p.computed y; way = take p.way y q }
  onward p (inr still) = p

  -- where an evaluator comes by its own choices in k turns: it begins with the given values, and goes on by the value that it names
  unfoldable pub play : Evaluator → ℕ → Position
  play ev zero = record { takings = 0; computed = given; way = start }
  play ev (suc k) = onward (play ev k) (ev (play ev k))
