pub mod Searches
pub mod Words
pub mod Places
pub mod Leaving
pub mod Entries
