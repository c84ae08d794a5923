-- The grammar, its table of bytes, the rules that the table obeys, which it breaks first, and what the functions answer.
pub mod Grammar
pub mod Fits
pub mod Table
pub mod Rules
pub mod Refusal
pub mod Search
pub mod Reading
pub mod Steps
pub mod Valid
