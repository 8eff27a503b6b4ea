pub mod laws
pub mod Totals
pub mod Tallies
