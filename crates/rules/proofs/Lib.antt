-- The worked cases, with and without stale combinations, both sides of the table's borders, the six steps by their tests, and what is so
-- of every outcome.
pub mod Cases
pub mod FreshCases
pub mod Borders
pub mod Steps
pub mod Stored
