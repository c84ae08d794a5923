-- Wrong versions of the test, on which the demands are tried.
pub mod Wrong
