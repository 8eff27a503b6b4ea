pub mod Exports
pub mod Evidence
pub mod inner
