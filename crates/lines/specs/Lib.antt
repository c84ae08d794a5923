-- A line in a lent buffer.
pub mod Buffer
