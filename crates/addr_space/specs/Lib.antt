pub mod Chunks
pub mod Hooks
pub mod Lies
pub mod Nth
pub mod Shared
pub mod Telling
