-- The counts of a map and its need, and the sections together.
pub mod Counted
pub mod Sections
