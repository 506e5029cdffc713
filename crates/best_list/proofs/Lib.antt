-- Laws that the crates above cite.
pub mod Pass
pub mod Offers
