pub mod Words
pub mod Causes
pub mod Splits
pub mod Shapes
pub mod Limits
pub mod Pieces
