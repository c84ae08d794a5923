-- The digits of a number, and how a number is read off a text; the kids of a line, how long a line is, what is printed for the small
-- grammars, and that the text tells the outcome.
pub mod Decimal
pub mod Numbers
pub mod Spaced
pub mod Short
pub mod Telling
pub mod Printed
