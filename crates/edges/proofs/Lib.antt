-- Laws that belong to no one function.
pub mod OneReading
pub mod Asked
pub mod Ordered
