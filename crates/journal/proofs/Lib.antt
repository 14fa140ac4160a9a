pub mod Exact
pub mod KnownWords
pub mod Rows
pub mod FieldLaws
pub mod AskLaws
pub mod OpLaws
pub mod EntryLaws
pub mod Puts
