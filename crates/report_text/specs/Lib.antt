pub mod Places
pub mod Heads
pub mod Answers
pub mod Causes
pub mod Controls
pub mod Lines
