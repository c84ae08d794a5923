-- The rule by which the productions that take part are found, and that it finds them.
pub mod Sets
pub mod Rule
pub mod Exactly
pub mod Small
pub mod Opened
