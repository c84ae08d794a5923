-- Runs of the passes: what is stored, what the answer says, what more steps or more room would change, and what it changes to leave out
-- stale combinations. `Claims` and `FreshClaims` have what is shown of the rules' passes; `Modes`, `Plans`, `Orders` and `Closures` have the
-- general form in which it is shown, and `Plain` the rules' way to store.
pub mod Stored
pub mod Answers
pub mod Claims
pub mod Modes
pub mod Plans
pub mod Orders
pub mod Closures
pub mod Plain
pub mod FreshClaims
pub mod Samples
