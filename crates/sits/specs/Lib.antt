pub mod Words
pub mod Arenas
pub mod Clients
pub mod Seats
pub mod Suits
pub mod Sitting
pub mod Laws
