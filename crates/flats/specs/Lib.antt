-- What Rust and C are given as numbers.
pub mod Flat
