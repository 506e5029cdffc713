-- Laws that the crates above cite.
pub mod Least
pub mod Lowering
