-- The vertices that wait in a search.
pub mod Waiting
