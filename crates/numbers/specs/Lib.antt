-- Bits, little-endian numbers and lists, as several crates cite them.
pub mod Number
pub mod Lists
pub mod Paths
pub mod Ways
