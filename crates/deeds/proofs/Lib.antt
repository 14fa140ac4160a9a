pub mod Boxes
pub mod Leading
pub mod Refusals
pub mod Reallocs
pub mod Ending
