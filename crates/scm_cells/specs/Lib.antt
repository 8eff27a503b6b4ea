pub mod Numbers
pub mod CellLists
pub mod laws
pub use Rattle.scm_sequences.specs.Sequences
