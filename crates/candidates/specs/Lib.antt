-- The candidates of a right symbol.
pub mod Next
