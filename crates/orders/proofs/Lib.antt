-- Any plan in any mode: Points, Limits, Kept, Turns, Sound. Any order of turns: Since, Ordered; without what is stale: Skipping, Closed. The
-- rules' passes as orders: Plain, Link, FreshLink. The claims: AnyPasses, Answers, FreshAnswers; at A and B: Samples.
pub mod Combinations
pub mod Points
pub mod Limits
pub mod Kept
pub mod Turns
pub mod Sound
pub mod Since
pub mod Ordered
pub mod Skipping
pub mod Closed
pub mod Counting
pub mod Plain
pub mod Link
pub mod AnyPasses
pub mod Answers
pub mod FreshLink
pub mod FreshAnswers
pub mod Samples
