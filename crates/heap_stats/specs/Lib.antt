pub mod Stats
pub mod Json
