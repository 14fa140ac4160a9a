pub mod Dids
pub mod Reallocs
