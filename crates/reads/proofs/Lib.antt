-- Laws that belong to no one function.
pub mod OneReading
pub mod Slots
