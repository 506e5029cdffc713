-- Laws that the crates above cite.
pub mod Written
pub mod Agrees
mod Stores
