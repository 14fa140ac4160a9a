pub mod Rule
pub mod Steps
pub mod Tables
pub mod Views
