-- That a promise has one reading: on the same arguments, any two outcomes that meet it give the caller back the same. An outcome is the
-- result and what the parameters are at exit, and `Post` is the promise itself, as the check reads it off the source. Assumes nothing.
use mathlib.Core.Path.{◌≡◌}
use mathlib.Core.List.{List}
use Prim.Native.Nat.{ℕ}
use contract.Lifetimes.{Lfts}
use denote.Triple.Clauses.{AtExit}
use borrow.Fn.Kinds.{ParamKind, ResultKind, Dens, Out, res_t, ended_of}

-- `back` is what the caller gets: of a place that is lent, what it holds afterwards
abbrev pub OneOutcome : (n : ℕ) (ps : List (ParamKind n)) (r : ResultKind n) → Out n ps r
    → {W : Lfts n → Type 0} → ((κs : Lfts n) → (res_t r κs).Denot → AtExit (ended_of n ps r) κs → W κs) → Type 0
OneOutcome n ps r Post back =
    (κs : Lfts n) (a : Dens κs ps) (x y : (res_t r κs).Denot) (s t : AtExit (ended_of n ps r) κs) → Post κs a x s → Post κs a y t
    → back κs x s ≡ back κs y t

-- where no place is lent to be written
abbrev pub OneResult : (n : ℕ) (ps : List (ParamKind n)) (r : ResultKind n) → Out n ps r → Type 0
OneResult n ps r Post = OneOutcome n ps r Post {W = λ κs. (res_t r κs).Denot} (λ κs x s. x)
