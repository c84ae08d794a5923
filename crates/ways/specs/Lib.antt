-- The demands, as statements about what comes back by every way in.
pub mod Program
pub mod Ways
