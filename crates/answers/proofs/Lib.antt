pub mod Stored
pub mod Longer
pub mod OneReading
