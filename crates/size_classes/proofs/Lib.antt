pub mod Table
pub mod Least
pub mod Computed
pub mod Alignment
