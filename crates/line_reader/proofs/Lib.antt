pub mod Breaks
pub mod Unread
