-- What the printed test promises.
pub mod Answered
