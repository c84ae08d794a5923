pub mod Placing
pub mod Resting
pub mod OneReading
