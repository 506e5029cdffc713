-- Rows as they stand in a memory.
pub mod Old
pub mod Kept
pub mod Laid
pub mod Refreshed
