-- Laws that the crates above cite.
pub mod Part
pub mod Lowered
