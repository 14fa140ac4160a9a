pub mod Latest
pub mod Tabled
