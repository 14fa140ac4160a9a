pub mod Rules
pub mod Ruled
pub mod Words
