-- Laws that the crates above cite.
pub mod Places
mod Way
mod Step
