pub mod MarkLists
pub use Rattle.scm_sequences.specs.Sequences
