-- The pairs of picked entries, and one reading.
pub mod Placing
pub mod Edges
pub mod OneReading
