-- A row of entries: where one is first found in it.
pub mod Lookup
