pub mod Sequences
pub mod Traces
pub mod laws
