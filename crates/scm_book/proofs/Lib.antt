pub mod Declaring
pub mod Marking
pub mod Entries
pub mod Answering
pub mod Questions
mod AskedLengths
pub mod Sounding
mod Counting
mod Changing
mod Calling
mod Answered
pub mod Keeping
pub mod Leaving
mod Delivering
mod Taking
mod FixedValues
pub mod CopyLaws
pub mod Searching
pub mod LendingLaws
mod Planning
pub mod KnownSchedulesLaws
