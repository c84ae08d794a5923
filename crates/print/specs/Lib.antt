-- The text of a report in a lent buffer.
pub mod Texts
