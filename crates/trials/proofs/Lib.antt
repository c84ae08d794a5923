-- The demands at the worked cases, and on wrong versions of the test.
pub mod Examples
pub mod Wrong
