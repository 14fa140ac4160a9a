pub mod Bytes
pub mod Planned
pub mod Reader
