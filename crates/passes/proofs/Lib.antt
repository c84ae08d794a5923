-- Laws that belong to no one function.
pub mod Entries
pub mod Following
pub mod Six
pub mod Combining
pub mod Systems
pub mod Tables
pub mod Passing
pub mod Reaching
pub mod Told
pub mod Testing
pub mod Circles
pub mod OneReading
