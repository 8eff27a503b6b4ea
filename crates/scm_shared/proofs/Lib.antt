pub mod Sums
pub mod Prefixes
pub mod Fitting
pub mod Seating
pub mod Passing
pub mod Auditing
pub mod Taking
pub mod Moves
