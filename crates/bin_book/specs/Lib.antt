pub mod Bins
pub mod Charts
pub mod ClassSets
pub mod Holders
pub mod Kept
pub mod Opened
pub mod Shown
pub mod Tables
