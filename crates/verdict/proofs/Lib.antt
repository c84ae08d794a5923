-- What is shown, under the names that the README lists.
pub use Rattle.rules.proofs.Cases.{K, entries_a_lem, whole_b, waits, fastest, skips}
pub use Rattle.rules.proofs.Borders.{borders}
pub use Rattle.orders.proofs.Answers.{fuel_suffices, turns_stay}
-- what a pass goes over is what takes part, and nothing else
pub use Rattle.parts.proofs.Tables.{takes_part}
-- the edges of a tree are those of its productions, each at its own node; its values are the attributes of its nodes, each once
pub use Rattle.trees.proofs.Addresses.{each_at_its_node}
pub use Rattle.trees.proofs.Exactly.{exactly, once}
pub mod Bridge
pub mod Obeys
pub mod Saying
pub mod Trees
pub mod Room
pub mod Words
pub mod Demands
pub mod Circle
pub mod OnlyCircle
pub mod Together
