-- The combinations of a turn, place by place, and the moves from one to the next.
pub mod Combos
pub mod Moves
pub mod Turning
pub mod Skips
