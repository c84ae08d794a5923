-- The lent slices, and the six steps for one combination over them.
pub mod Slices
pub mod Step
pub mod Lent
