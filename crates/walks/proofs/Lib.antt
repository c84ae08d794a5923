-- Laws that belong to no one function.
pub mod Steps
pub mod Orders
pub mod Loops
pub mod OneReading
