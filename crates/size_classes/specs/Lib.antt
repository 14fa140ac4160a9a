pub mod Classes
pub mod Room
