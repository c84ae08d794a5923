-- What is printed, and that it tells the outcome.
pub mod Lines
pub mod Telling
