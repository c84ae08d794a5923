-- The laws of sets and walks, and the theorems.
pub mod Sets
pub mod Sizes
pub mod Walks
pub mod Rule
pub mod Exactly
pub mod Tables
pub mod Samples
