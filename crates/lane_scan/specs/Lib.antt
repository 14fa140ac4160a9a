pub mod Bits
pub mod Ranges
