pub mod Arenas
pub mod Booked
pub mod Chunks
pub mod Ends
pub mod Indexes
pub mod OfferLists
pub mod Rooms
pub mod Slabs
