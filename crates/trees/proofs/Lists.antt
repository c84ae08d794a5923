-- What holds at each number of a list. Assumes nothing.
use mathlib.Core.List.{List, [], ◌∷◌, Memᴰ}
use mathlib.Core.Path.{refl}
use Prim.Native.Nat.{ℕ, zero, suc}
use lib.ListN.{get_or}

-- what holds of each member and of what stands past the end holds at each number
pub get_d_each : {A : Type 0} (P : A → Type 0) (l : List A) (d : A) → P d → ((x : A) → Memᴰ x l → P x) → (i : ℕ) → P (get_or l i d)
get_d_each P [] d h f i = h
get_d_each P (x ∷ l) d h f zero = f x (Memᴰ.head refl)
get_d_each P (x ∷ l) d h f (suc i) = get_d_each P l d h (λ y m. f y (Memᴰ.tail m)) i
