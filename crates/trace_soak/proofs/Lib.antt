pub mod Wrapping
pub mod LinesLeft
