-- What the test over a row of entries promises.
pub mod Records
