pub mod Dated
pub mod Kept
pub mod Paces
