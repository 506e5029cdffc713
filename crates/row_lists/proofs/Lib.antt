-- Laws that the functions and the crates above cite.
pub mod Rows
pub mod Looking
pub mod Pairs
