-- What the theorems on runs ask of a way to store. The rules' way keeps the list of entries, and step 4 looks for the same graph. Another may
-- look for another graph there, and may retire entries: they stay, and join no later turn. Assumes nothing.
use Rattle.std.specs.Prelude.{◌≡◌, true, false, List, [], ◌∷◌, ◌++◌, ℕ, ◌<◌, length}
use Rattle.rules.specs.declared.Entry.{Entry}
use Rattle.rules.specs.Passes.{System, entry, graphs, seven}
use Rattle.orders.specs.Stored.{FitsIn, Different}

-- what one closure shows: a circle; a graph that is needless; or a new one, with the store that has it
pub data Judged (Store : Type 0) : Type 0 where
  round : Judged Store
  needless : Judged Store
  fresh : Store → Judged Store

-- the entry of the production p over the combination c
abbrev pub new_entry : System → ℕ → List ℕ → List Entry → Entry
new_entry W p c es = record { symbol = W.left p; graph = W.graph p (graphs es c); production = p; kids = seven c }

pub record Mode (W : System) : Type 1 where
  pub Store : Type 0
  pub start : Store
  -- in order of storing
  pub entries : Store → List Entry
  -- the entry joins the turns that begin now
  pub Live : Store → ℕ → Type 0
  -- the stored graph makes the other needless
  pub Over : ℕ → ℕ → Type 0
  -- the closure of a production over a combination
  pub judge : ℕ → List ℕ → Store → Judged Store
  pub none : entries start ≡ []
  pub adds : (p : ℕ) (c : List ℕ) (s t : Store) → judge p c s ≡ fresh t
      → entries t ≡ entries s ++ (new_entry W p c (entries s) ∷ [])

module _ {W : System} (M : Mode W) where
  -- i is the number of a live entry
  abbrev pub Candidate : M.Store → ℕ → Type 0
  Candidate s i = (i < length (M.entries s)) × M.Live s i

  -- a live entry of the symbol a makes the graph g needless
  pub record Covered (s : M.Store) (a g : ℕ) : Type 0 where
    pub number : ℕ
    pub among : Candidate s number
    pub symbol : (entry (M.entries s) number).symbol ≡ a
    pub over : M.Over (entry (M.entries s) number).graph g

  -- t comes after s: what is stored stays, what is retired stays so, and what is covered stays covered
  pub record Later (s t : M.Store) : Type 0 where
    pub more : List Entry
    pub stays : M.entries t ≡ M.entries s ++ more
    pub retired : (i : ℕ) → i < length (M.entries s) → M.Live t i → M.Live s i
    pub covered : (a g : ℕ) → Covered s a g → Covered t a g

  -- p has no circle over c, and its graph is covered
  pub record Settled (s : M.Store) (p : ℕ) (c : List ℕ) : Type 0 where
    pub calm : W.circle p (graphs (M.entries s) c) ≡ false
    pub covered : Covered s (W.left p) (W.graph p (graphs (M.entries s) c))

  -- every combination of live entries is settled, for the productions that take part
  abbrev pub AllSettled : (ℕ → Type 0) → M.Store → Type 0
  AllSettled Part s = (p : ℕ) → Part p → (c : List ℕ) → FitsIn (M.entries s) (Candidate s) c (W.rights p) → Settled s p c

  -- a turn of p, from s to t, whatever it tried: the combinations of the entries that were live when it began are settled when it ends
  pub record Turned (p : ℕ) (s t : M.Store) : Type 0 where
    pub later : Later s t
    pub settles : (c : List ℕ) → FitsIn (M.entries s) (Candidate s) c (W.rights p) → Settled t p c

  -- what a closure has shown, where sound stores stay sound
  pub data Shown (Sound : M.Store → Type 0) (p : ℕ) (c : List ℕ) (s : M.Store) : Judged M.Store → Type 0 where
    circle : W.circle p (graphs (M.entries s) c) ≡ true → Shown Sound p c s round
    settled : Settled s p c → Shown Sound p c s needless
    added : {t : M.Store} → W.circle p (graphs (M.entries s) c) ≡ false
        → (Covered s (W.left p) (W.graph p (graphs (M.entries s) c)) → ⊥) → Sound t → Later s t
        → Covered t (W.left p) (W.graph p (graphs (M.entries s) c)) → Shown Sound p c s (fresh t)

-- what is to be shown of a mode, once
pub record Lawful {W : System} (M : Mode W) : Type 1 where
  pub Sound : M.Store → Type 0
  pub begins : Sound M.start
  pub judges : (p : ℕ) (c : List ℕ) (s : M.Store) → Sound s → Shown M Sound p c s (M.judge p c s)
  pub differ : (s : M.Store) → Sound s → Different (M.entries s)
