pub mod Words
pub mod Bounds
