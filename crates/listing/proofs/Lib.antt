-- Laws that the crates above cite.
pub mod Turns
pub mod Listing
