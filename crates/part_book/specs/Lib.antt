pub mod Books
pub mod Leaves
pub mod Lists
pub mod Rows
pub mod Shown
pub mod Tables
