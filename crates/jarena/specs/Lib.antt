pub mod Words
pub mod Facts
pub mod Checks
pub mod Served
pub mod Runs
