-- What circ prints, and what it has read.
pub mod Whole
