pub mod Slabs
pub mod Words
