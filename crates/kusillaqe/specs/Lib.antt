-- What the exported test promises.
pub mod Flat
