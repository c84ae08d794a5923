-- The entry of a number and the store of one, by whether the slices hold it. Assumes nothing.
use mathlib.Core.Path.{◌≡◌, refl, ap}
use mathlib.Core.Bool.{Bool, true, false, cond}
use Prim.Native.Nat.{ℕ, ◌+◌, ◌*◌, ◌≤◌, ◌<◌}
use lib.Dec.{ltb}
use mathlib.Core.List.{List, ◌++◌, append_assoc}
use lib.ListN.{length, take, drop, length-set}
use lib.Seq.{sets, sets-eq, length-sets, drop-drop}
use borrow.Rule.Slice.PartMut.{put_mid}
use borrow.Author.Tests.{lt-ltb, le-ltb}
use Rattle.rules.specs.declared.Entry.{Entry}
use Rattle.rules.specs.Passes.{no_entry}
use Rattle.steps.specs.Slices.{Slices, room_of, entry_at, entry_in, put, put_in}

-- a write to a part of a list
pub part_put : (l vs ys : List ℕ) (i k : ℕ) → ys ≡ vs → k ≡ length vs → i + length vs ≤ length l → put_mid i k l ys ≡ sets l i vs
part_put l vs ys i k e h fits =
    rw (e, h, sets-eq vs l i fits, append_assoc (take i l) vs (drop (i + length vs) l)) (ap (λ (xs : List ℕ). take i l ++ (vs ++ xs)) (drop-drop (length vs) i l))

module _ (σ : Slices) (i : ℕ) where
  pub entry_held : i < room_of σ → entry_in σ i ≡ entry_at σ i
  entry_held h = rw (lt-ltb i (room_of σ) h)

  pub entry_none : room_of σ ≤ i → entry_in σ i ≡ no_entry
  entry_none h = rw (le-ltb i (room_of σ) h)

  module _ (e : Entry) where
    pub put_held : i < room_of σ → put_in σ i e ≡ put σ i e
    put_held h = rw (lt-ltb i (room_of σ) h)

    pub put_none : room_of σ ≤ i → put_in σ i e ≡ σ
    put_none h = rw (le-ltb i (room_of σ) h)

    -- the slices stay as long as they are
    pub put_long :
        (length (put_in σ i e).symbols ≡ length σ.symbols)
        × (length (put_in σ i e).graphs ≡ length σ.graphs)
        × (length (put_in σ i e).productions ≡ length σ.productions)
        × (length (put_in σ i e).kids ≡ length σ.kids)
    put_long = go (ltb i (room_of σ))
      where
        go : (b : Bool)
            → (length (cond b (put σ i e) σ).symbols ≡ length σ.symbols)
            × (length (cond b (put σ i e) σ).graphs ≡ length σ.graphs)
            × (length (cond b (put σ i e) σ).productions ≡ length σ.productions)
            × (length (cond b (put σ i e) σ).kids ≡ length σ.kids)
        go true = (
          length-set σ.symbols i e.symbol,
          length-set σ.graphs i e.graph,
          length-set σ.productions i e.production,
          length-sets σ.kids (7 * i) e.kids,
        )
        go false = (refl, refl, refl, refl)
