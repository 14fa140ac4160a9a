pub mod Floats
pub mod Small
pub mod Sums
