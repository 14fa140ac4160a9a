pub mod Added
pub mod Fair
pub mod Standings
pub mod Within
