pub mod Passes
pub mod inner
