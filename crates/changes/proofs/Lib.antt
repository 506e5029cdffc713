-- Laws of the changes.
pub mod Chain
pub mod Reading
pub mod Between
pub mod OneVan
pub mod Whole
pub mod Finish
pub mod Gate
