pub mod LoweringLaws
pub mod AccessLaws
