-- The demands, as statements about the rules that the program is proved to follow.
pub mod Demands
pub mod Circle
