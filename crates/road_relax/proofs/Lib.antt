-- Laws that the functions and the crates above cite.
pub mod Relaxed
