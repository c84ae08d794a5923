-- The closure of one combination.
pub mod Combination
