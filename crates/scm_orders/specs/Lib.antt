pub mod Facts
pub mod Refuting
pub mod inner
pub mod laws
pub use Rattle.scm_sequences.specs.Sequences
pub use Rattle.scm_sequences.specs.Traces
