pub mod Names
pub mod Digits
pub mod Cuts
pub mod Numerals
