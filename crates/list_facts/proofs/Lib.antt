pub mod Members
pub mod ByKey
