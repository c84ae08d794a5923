-- The promise of the test over lent slices, and how its code follows the rules.
pub mod Slices
pub mod Follow
