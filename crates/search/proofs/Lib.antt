-- One reading.
pub mod OneReading
