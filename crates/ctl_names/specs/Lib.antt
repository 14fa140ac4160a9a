pub mod Rows
pub mod Names
