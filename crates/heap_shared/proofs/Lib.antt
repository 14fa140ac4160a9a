pub mod Words
mod Chunks
mod Rooms
mod Sweeps
mod Told
