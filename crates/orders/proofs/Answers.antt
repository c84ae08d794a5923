-- The passes as they stand in `Passes`: what their outcome says, and two limits or two rooms. Assumes nothing.
use mathlib.Core.Path.{◌≡◌, sym, ◌∙◌}
use mathlib.Core.List.{List}
use Prim.Native.Nat.{ℕ, suc}
use native.Mathlib.Omega.{arith}
use Rattle.rules.specs.declared.Answer.TheVariants.{Noncircular, Circular}
use Rattle.rules.specs.Passes.{System, passes}
use Rattle.orders.specs.Stored.{In, Root, AllMade}
use Rattle.orders.specs.Claims.{OutcomeSound, TurnsStay, FuelSuffices, StepsDecide, RoomDecides, OneMore, VerdictStands, MoreRoom}
use Rattle.orders.specs.Plain.{plain}
use Rattle.orders.specs.Orders.{Offers}
use Rattle.orders.proofs.Ordered.{all_offers}
use Rattle.orders.proofs.Link.{pass_stays, passes_from_lem, passes_run}
use Rattle.orders.proofs.AnyPasses.{plain_combos, any_sound, any_saturated, any_root, any_steps, any_room, any_more, any_stands, any_more_room}

pub turns_stay : TurnsStay
turns_stay W ps L R s h k = pass_stays W L R ps s h k

pub fuel_suffices : FuelSuffices
fuel_suffices W ps L R fuel h = passes_from_lem W ps L R fuel (suc R) h (omega arith) ∙ sym (passes_run W ps L R (suc R) (omega arith))

-- a turn offers every combination
abbrev all : (W : System) → Offers (plain W)
all W = all_offers (plain W) (plain_combos W)

pub outcome_sound : OutcomeSound passes
outcome_sound = any_sound passes all passes_run

pub noncircular_saturated : (W : System) (ps : List ℕ) (L R : ℕ) → (passes W L R ps).report.answer ≡ Noncircular
    → AllMade W (In ps) (passes W L R ps).entries
noncircular_saturated = any_saturated passes all passes_run

pub circular_root : (W : System) (ps : List ℕ) (L R p : ℕ) → (passes W L R ps).report.answer ≡ Circular p
    → Root W (In ps) (passes W L R ps).entries p (passes W L R ps).report.root
circular_root = any_root passes all passes_run

pub steps_exactly : StepsDecide passes
steps_exactly = any_steps passes all passes_run

pub room_exactly : RoomDecides passes
room_exactly = any_room passes all passes_run

pub one_more : OneMore passes
one_more = any_more passes all passes_run

pub verdict_stands : VerdictStands passes
verdict_stands = any_stands passes all passes_run

pub more_room : MoreRoom passes
more_room = any_more_room passes all passes_run
