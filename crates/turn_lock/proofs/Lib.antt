pub mod Words
mod Closing
mod Histories
mod Keeps
mod Totals
mod Turned
