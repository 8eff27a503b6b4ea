mod Telling
mod Parsing
pub mod Reading
