-- The rows of a part, and lists of them.
pub mod Rows
