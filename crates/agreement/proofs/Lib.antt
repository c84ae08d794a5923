-- Laws that belong to no one function.
pub mod Exactly
pub mod Rowing
pub mod Finding
pub mod Agreeing
pub mod OneReading
