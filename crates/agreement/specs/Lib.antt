-- How a row of records is compared with parallel slices.
pub mod Agreement
