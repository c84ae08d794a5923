-- The next candidate, step by step, and one reading.
pub mod Seeking
pub mod OneReading
