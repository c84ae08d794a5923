-- Laws that several crates cite: bytes past the end, runs of numbers, parts of a list, tests over a list and over numbers, members, lists
-- with no two equal elements, pigeonholes, orders, bits, paths, one reading.
pub mod Bytes
pub mod Ranges
pub mod Parts
pub mod Every
pub mod Decides
pub mod Downward
pub mod Keeping
pub mod Members
pub mod Distinct
pub mod Pigeons
pub mod Ordered
pub mod Bits
pub mod Meets
pub mod Ways
pub mod Reading
pub mod OneReading
