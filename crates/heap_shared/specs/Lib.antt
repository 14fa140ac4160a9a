pub mod Claims
pub mod Shared
pub mod Touches
pub mod Turns
