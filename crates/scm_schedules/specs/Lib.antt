pub mod Refuting
pub mod inner
pub mod laws
pub use Rattle.scm_frontier.specs.Situations
pub use Rattle.scm_frontier.specs.Comparisons
pub use Rattle.scm_reach.specs.Kept
pub use Rattle.scm_sequences.specs.Sequences
pub use Rattle.scm_sequences.specs.Traces
