pub mod Listing
pub mod Words
pub mod ByClass
pub mod Tallies
pub mod Changes
pub mod Answered
