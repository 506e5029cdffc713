-- The least of many distances.
pub mod Least
