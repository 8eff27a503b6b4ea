pub mod Bits
pub mod Spellings
