pub mod Putting
pub mod OneReading
