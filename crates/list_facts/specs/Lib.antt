pub mod ByKey
pub mod Codes
