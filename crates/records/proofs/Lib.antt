-- Laws that belong to no one function.
pub mod ByRecord
pub mod EntryIn
pub mod OneReading
