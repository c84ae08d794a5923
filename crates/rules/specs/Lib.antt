-- The passes, from the bytes of a table to the report; the passes without stale combinations; the small grammars.
pub mod Passes
pub mod Fresh
pub mod Test
pub mod Small
pub mod Opened
