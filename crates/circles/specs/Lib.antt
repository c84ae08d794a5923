-- What the code promises of a root's circle, whatever the table is.
pub mod Ring
