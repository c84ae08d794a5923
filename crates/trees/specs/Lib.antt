-- Finite complete trees, their attribute graphs and circles; what takes part; evaluators; the trees that a derivation record shows; what
-- a circle says of them.
pub mod Tree
pub mod Address
pub mod Compound
pub mod TakesPart
pub mod Evaluator
pub mod Record
pub mod Said
pub mod Small
