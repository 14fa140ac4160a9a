pub mod Books
pub mod Larges
pub mod RegionLists
pub mod Slabs
pub mod Totals
