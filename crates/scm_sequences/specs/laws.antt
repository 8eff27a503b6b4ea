pub mod CutLaws
pub mod FixedLaws
pub mod FrontLaws
pub mod LengthLaws
pub mod SequenceLaws
