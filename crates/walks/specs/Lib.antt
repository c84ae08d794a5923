-- What the promises of the code's own parts say.
pub mod Walk
