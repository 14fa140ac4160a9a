pub mod Parts
pub mod Names
pub mod Rule
pub mod Apart
pub mod Limits
pub mod Expanded
