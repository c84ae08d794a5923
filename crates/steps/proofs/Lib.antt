-- Laws that belong to no one function.
pub mod Held
pub mod Verdicts
pub mod Lending
pub mod OneReading
