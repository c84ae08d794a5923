-- By every way in the demands hold of what a caller reads.
pub mod Program
pub mod Ways
