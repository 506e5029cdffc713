-- What a lookup gets in the words used.
pub mod Looked
