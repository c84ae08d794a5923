-- The combinations of a turn, the moves step by step, what they come to, and one reading.
pub mod Odometer
pub mod Moving
pub mod Turning
pub mod Skipping
pub mod Newer
pub mod OneReading
