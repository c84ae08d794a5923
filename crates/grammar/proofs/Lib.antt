-- Laws and theorems about the table.
pub mod Lookups
pub mod Seeking
pub mod Occurrences
pub mod First
pub mod Handing
pub mod Sequence
pub mod Decided
pub mod Refused
pub mod Runs
pub mod Valid
