-- Laws that the functions and the crates above cite.
pub mod Fans
pub mod Turns
pub mod Shown
