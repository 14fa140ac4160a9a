pub mod Words
pub mod ByClass
pub mod Flat
pub mod Gone
