pub mod Audits
pub mod Locking
pub mod Rule
pub mod Seats
pub mod Steps
