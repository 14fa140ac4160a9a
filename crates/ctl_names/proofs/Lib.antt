pub mod Table
pub mod Matching
pub mod Unique
