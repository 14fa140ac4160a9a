pub mod Causes
pub mod Numbers
pub mod Names
pub mod Ranges
pub mod Verbs
pub mod Grammar
pub mod Lines
