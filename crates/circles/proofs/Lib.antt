-- Of a table that is taken the circle is the one that the report says; one reading.
pub mod Saying
pub mod OneReading
