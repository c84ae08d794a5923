-- The pairs of picked entries, from below, and one reading.
pub use Rattle.compounds.proofs.Placing
pub mod OneReading
