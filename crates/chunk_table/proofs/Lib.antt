mod Dealing
mod Gathering
pub mod Keeps
